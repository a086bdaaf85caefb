pub mod SpellsLaw
