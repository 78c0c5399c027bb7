-- What a change makes of a row.
use Rattle.std.specs.Prelude.{◌≡◌, true, false, not, ◌||◌, max, ◌+◌}
use Rattle.misp_model.specs.Prelude.{Content, Label, Row, Stamp, is_gone, is_statement, is_too_long}
use Rattle.misp_copies.specs.declared.change_fault.ChangeFault.{ChangeFault}
use Rattle.misp_copies.specs.declared.change_fault.ChangeFault.TheVariants.{ElementFull, NoMemory}

-- the row as a change at this moment makes it
unfoldable pub renewed : Stamp → Row → Label → Content → Row
renewed now row l c =
    record row {
      stamp = max now (row.stamp + 1);
      label = l;
      held = not (is_statement row.key || is_gone c);
      carried = false;
      content = c;
    }

-- the content is too long for an element, or memory ran out
abbrev pub IsFull : Content → ChangeFault → Type 0
IsFull c ElementFull = is_too_long c ≡ true
IsFull c NoMemory = Unit {0}
IsFull c fault = ⊥
