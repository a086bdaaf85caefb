use Rattle.std.proofs.Common.{refl}
use Rattle.command_endings.proofs.deficiency_command.answer.Goals as goal

pub returns : goal.returns
returns c =
    let found = c.in_ok-found.found in
    let h = c.in_ok-found.ensures in
    record {
      result = refl;
      answers = record {
        status_is = refl;
        writes = record {
          value = found.value;
          kept = found.kept;
          own = found.own;
          greatest = h.value;
          kernel = h.kept;
          has_it = h.kept_has_it;
          owners = h.own;
          all_but = h.own_all_but;
          written_is = c.in_ok-text_of.ensures;
        };
        silent = c.new.ensures.items;
      };
    }
