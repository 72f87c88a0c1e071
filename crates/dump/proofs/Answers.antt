-- What a dump and a part answer and leave, refused or done.
use Rattle.std.specs.Prelude.{Err, Ok}
use Rattle.words.specs.Prelude.{ℕ, ◌≡◌, sym, ◌∙◌, List}
use Rattle.words.specs.{declared.refusal.Refusal.Refusal}
use Rattle.records.specs.{declared.settings.Settings.Settings, declared.state.State.State}
use Rattle.images.specs.{Layout.image_of}
use Rattle.images.specs.{Refused.left_by}
use Rattle.dumpable.specs.{Refused.dump_judged, Refused.part_judged}
use Rattle.dump.specs.{Order.written, Dumping.Dumped, Parts.PartLaid, Parts.parted_by, Parts.PartDumped}
use Rattle.refusals.specs.{Lines.Verdict}

module _ (s : Settings) (t : State) (rows area : List ℕ) (from upto : ℕ) {v : Verdict} (judge : v ≡ dump_judged s t rows area) where
  pub dump_refused : {r : Refusal} → v ≡ Err r → Dumped s t rows area from upto (Err r) area
  unfolding left_by
  dump_refused bad = record { verdict = sym bad ∙ judge; leaves = rw (← judge, bad) }

  pub dump_done : {after : List ℕ} → v ≡ Ok tt → after ≡ written (image_of s t rows) area from upto → Dumped s t rows area from upto (Ok tt) after
  unfolding left_by
  dump_done fine e = record { verdict = sym fine ∙ judge; leaves = rw (← judge, fine) e }

module _ (s : Settings) (t : State) (rows : List ℕ) (at : ℕ) (part : List ℕ) {v : Verdict} (judge : v ≡ part_judged s t rows) where
  pub part_refused : {r : Refusal} → v ≡ Err r → PartDumped s t rows at part (Err r) part
  unfolding left_by parted_by
  part_refused bad = record { answer = rw (← judge, bad); leaves = rw (← judge, bad) }

  pub part_done : {used : ℕ} {after : List ℕ} → v ≡ Ok tt → PartLaid (image_of s t rows) at part used after → PartDumped s t rows at part (Ok used) after
  unfolding left_by parted_by
  part_done fine e = record { answer = rw (← judge, fine, e.count); leaves = rw (← judge, fine) e.leaves }
