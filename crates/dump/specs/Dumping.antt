-- What a dump answers and leaves. Definitions only.
use Rattle.std.specs.Prelude.{ℕ, ◌≡◌, Bool, cond, List, length}
use Rattle.records.specs.{declared.settings.Settings.Settings, declared.state.State.State, Settings.settings_of, StateWords.state_of}
use Rattle.images.specs.{Layout.image_of, Refused.left_by}
use Rattle.dumpable.specs.{Refused.dump_judged, Laws.Passing.words_pass}
use Rattle.dump.specs.{Order.written}
use Rattle.refusals.specs.{Lines.Verdict}

-- a dump's verdict, and the area that it leaves
pub record Dumped (s : Settings) (t : State) (rows area : List ℕ) (from upto : ℕ) (v : Verdict) (after : List ℕ) : Type 0 where
  pub verdict : v ≡ dump_judged s t rows area
  pub leaves : after ≡ left_by (dump_judged s t rows area) (written (image_of s t rows) area from upto) area

-- What a dump of words does: all that was asked where they pass, and nothing where not.
pub record WordsDumped (settings state rows area : List ℕ) (from upto : ℕ) (r : Bool) (after : List ℕ) : Type 0 where
  pub passes : r ≡ words_pass settings state (length rows) (length area)
  pub leaves : after ≡ cond r (written (image_of (settings_of settings) (state_of state) rows) area from upto) area
