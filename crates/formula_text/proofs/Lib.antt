pub mod ClauseForms
