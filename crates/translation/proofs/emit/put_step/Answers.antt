-- Four bytes at a time.
use Rattle.words.specs.Prelude.{refl}
use Rattle.translation.proofs.{Writes.step_written}
use Rattle.translation.proofs.emit.put_step.Goals as goal

pub returns : goal.returns
returns c = record {
  value = refl;
  room_after = rw (
    c.put_number-3.ensures,
    c.put_number-2.ensures,
    c.put_number.ensures,
    c.put_four.ensures,
    c.low-3.ensures,
    c.low-2.ensures,
    c.low.ensures,
  ) (step_written _ _ _ _ _ _ _);
}
