-- The parts of a run's end, each by its own definition, make the whole.
use Rattle.std.specs.Prelude.{Err, None, Ok, Option, Result, Some}
use Rattle.words.specs.Prelude.{ℕ, ◌+◌, ◌-◌, ◌*◌, ◌/◌, ◌<◌, ◌≡◌, refl, sym, ap, List, arith, lt-ltb, le-ltb, Float, length, set, set_out}
use Rattle.floats.specs.{Floats.word_of}
use Rattle.portfolio.specs.{declared.Closed.Closed, Portfolio.equity}
use Rattle.metrics.specs.{declared.Metrics.Metrics}
use Rattle.words.specs.{declared.refusal.Refusal.Refusal}
use Rattle.records.specs.{declared.settings.Settings.Settings, declared.state.State.State, Lent.Rooms}
use Rattle.refusals.specs.{Judgement.finish_judged}
use Rattle.engine.specs.{declared.answer.Ended.Ended}
use Rattle.engine.specs.{Books.booked, Finish.last_exit, Finish.remarked, Finish.end_state, Finish.measured}
use Rattle.engine.specs.{Finish.ended, Finish.concluded, Finish.finish_of, Step.Is}
use Rattle.words.specs.Limits as Limits

-- the last point: there is none, it lies past the room, or it is written
pub no_point : (room : List ℕ) (n : ℕ) (x : Option Closed) (close : Float) → n ≡ 0 → room ≡ remarked room n x close
unfolding remarked
no_point room n None close h = refl
no_point room n (Some c) close h = rw (le-ltb 0 n (omega arith))

pub late_point : (room : List ℕ) (n : ℕ) (x : Option Closed) (close : Float) → length room / Limits.point_words < n → room ≡ remarked room n x close
unfolding remarked
late_point room n None close h = refl
late_point room n (Some c) close h = rw (lt-ltb 0 n (omega arith)) (sym (set_out room ((n - 1) * Limits.point_words + 1) _ (omega arith)))

pub last_point : (room : List ℕ) (n : ℕ) (x : Option Closed) (close : Float) (c : Closed) (w : ℕ)
    → x ≡ Some c → (n ≡ 0 → ⊥) → w ≡ word_of (equity c.portfolio close) → set room ((n - 1) * Limits.point_words + 1) w ≡ remarked room n x close
unfolding remarked
last_point room n x close c w e some v = rw (e, lt-ltb 0 n (omega arith), v)

module _ (s : Settings) (t : State) (m : Rooms) where
  pub endings : (x : Option Closed) (st : State) (f : Metrics) (count : ℕ) (es ts : List ℕ)
      → x ≡ last_exit s t
      → (count ≡ (booked m.trades t.counts.trades x).count) × (ts ≡ (booked m.trades t.counts.trades x).room)
      → es ≡ remarked m.equity t.counts.equity_points x t.last.close
      → st ≡ end_state t x count
      → f ≡ measured s es t.counts.equity_points ts count
      → Is Ended (ended s t m) (record { state = st; metrics = f }) m.rows es ts
  unfolding ended
  endings x st f count es ts ex eb ee est ef =
      rw (ef, est, ee, eb.0, eb.1, ex) (record { result = refl; rows = refl; equity = refl; trades = refl })

  pub refused : (why : Refusal) → finish_judged s t m ≡ Err why
      → Is (Result Ended (Refusal × State)) (finish_of s t m) (Err (why, t)) m.rows m.equity m.trades
  unfolding finish_of concluded
  refused why h = rw h (record { result = refl; rows = refl; equity = refl; trades = refl })

  pub went : finish_judged s t m ≡ Ok tt → (r : Ended) (ws es ts : List ℕ) → Is Ended (ended s t m) r ws es ts
      → Is (Result Ended (Refusal × State)) (finish_of s t m) (Ok r) ws es ts
  unfolding finish_of concluded
  went h r ws es ts d =
      rw h (record { result = ap (λ (e : Ended). Ok e) d.result; rows = d.rows; equity = d.equity; trades = d.trades })
