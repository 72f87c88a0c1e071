-- Every place of a refusal of a step and of a finish is below 2^32: those that the papers name are small, a bad step's is below 4 times 1,024,
-- and the bars seen are below 4,294,967,295 where a bar is looked at, since 14 comes before 11.
use Rattle.std.specs.Prelude.{ℕ, ◌<◌, ◌^◌, ◌≡◌, refl, Bool, true, false, cond, ◌&&◌, List, [], ◌∷◌, ◌++◌, leb, Err, Ok, Result}
use Rattle.words.specs.Prelude.{sym, arith, leb-true, ltb-true}
use Rattle.words.specs.{Limits.most_count, Limits.most_steps, declared.refusal.Refusal.Refusal}
use Rattle.steps.specs.{WellFormed.formed}
use Rattle.records.specs.{declared.settings.Settings.Settings, declared.state.State.State, Lent.Rooms, Lent.Lists}
use Rattle.refusals.specs.{Lines.Line, Lines.judged}
use Rattle.refusals.specs.{Settings.sizing_lines, Settings.slippage_lines, Settings.risk_lines, Settings.term_lines, Settings.entry_lines}
use Rattle.refusals.specs.{Settings.setting_lines, Rooms.room_lines, Rooms.state_lines, Rooms.place_lines, Rooms.close_lines, Bar.bar_lines, Lists.bad_step}
use Rattle.refusals.specs.{Lists.list_lines, Judgement.run_lines, Judgement.step_lines, Judgement.finish_lines, Judgement.finish_judged, Laws.Lines.never}
use Rattle.refusals.specs.{Laws.Lines.and_true, Laws.Lines.first_holds, Laws.BadStep.bad_below}
use Rattle.words.specs.{Outcome.place_of}

-- each line's place is below 2^32, where those above it hold
unfoldable pub Placed : List Line → Type 0
Placed [] = Unit
Placed (l ∷ ls) = (place_of l.why < 2 ^ 32) × (l.ok ≡ true → Placed ls)

-- a line that does not hold decides; else the lines below it
pub place_below : (ls : List Line) (r : Refusal) → Placed ls → judged ls ≡ Err r → place_of r < 2 ^ 32
unfolding judged Placed
place_below [] r p e = never (sym e)
place_below (l ∷ ls) r p e = go l.ok refl (λ h. place_below ls r (p.1 h)) e
  where
    go : (ok : Bool) → l.ok ≡ ok → (l.ok ≡ true → judged ls ≡ Err r → place_of r < 2 ^ 32)
        → cond ok (judged ls) (Err l.why) ≡ Err r → place_of r < 2 ^ 32
    go true h below d = below h d
    go false h below d = let same : (place_of l.why) ≡ (place_of r) = cc in omega (arith, p.0)

-- lines below others
pub placed_under : (a b : List Line) → Placed a → (judged a ≡ Ok tt → Placed b) → Placed (a ++ b)
unfolding judged Placed
placed_under [] b p q = q refl
placed_under (l ∷ a) b p q = (p.0, λ h. placed_under a b (p.1 h) (λ e. q (rw h e)))

-- the places that the papers name: rooms and settings
unfoldable pub named : List Line → Bool
named [] = true
named (l ∷ ls) = leb (place_of l.why) 31 && named ls

pub named_placed : (ls : List Line) → named ls ≡ true → Placed ls
unfolding Placed named
named_placed [] n = tt
named_placed (l ∷ ls) n = let own = and_true (leb (place_of l.why) 31) (named ls) n in (omega (arith, leb-true (place_of l.why) 31 own.0), λ h. named_placed ls own.1)

-- ---- a step

bad_step_lem : (K D : ℕ) (bs : List ℕ) → bad_step (formed K D bs) < most_steps
bad_step_lem K D bs = go (formed K D bs) refl
  where
    go : (f : Result (Unit {0}) ℕ) → formed K D bs ≡ f → bad_step f < most_steps
    go (Ok _) e = omega arith
    go (Err p) e = bad_below K D bs p e

lists_placed : (K D : ℕ) (ls : Lists) → Placed (list_lines K D ls)
unfolding Placed list_lines
lists_placed K D ls = (
  omega (arith, bad_step_lem K D ls.entry),
  λ a. (
    omega (arith, bad_step_lem K D ls.«exit»),
    λ b. (
      omega (arith, bad_step_lem K D ls.short_entry),
      λ c. (omega (arith, bad_step_lem K D ls.short_exit), λ d. tt),
    ),
  ),
)

bar_placed : (K : ℕ) (bar : List ℕ) (seen : ℕ) → seen < most_count → Placed (bar_lines K bar seen)
unfolding Placed bar_lines
bar_placed K bar seen h = (omega arith, λ a. (omega arith, λ b. (omega arith, λ c. tt)))

run_named : (s : Settings) (t : State) (m : Rooms) → named (run_lines s t m) ≡ true
unfolding named run_lines room_lines setting_lines term_lines entry_lines sizing_lines slippage_lines risk_lines state_lines
run_named s t m = refl

places_named : (t : State) (m : Rooms) → named (place_lines t.counts m.equity m.trades) ≡ true
unfolding named place_lines
places_named t m = refl

-- the last of them is the one of bars seen
few_bars : (t : State) (m : Rooms) → judged (place_lines t.counts m.equity m.trades) ≡ Ok tt → t.counts.bars_seen < most_count
unfolding place_lines
few_bars t m h = ltb-true _ _ (first_holds _ _ (first_holds _ _ (first_holds _ _ h).1).1).0

-- EVERY PLACE of a step
pub step_placed : (s : Settings) (t : State) (bar : List ℕ) (m : Rooms) (ls : Lists) → Placed (step_lines s t bar m ls)
unfolding step_lines Placed
step_placed s t bar m ls =
    placed_under (run_lines s t m) _ (named_placed _ (run_named s t m))
    (λ e. (
      omega arith,
      λ h. placed_under (place_lines t.counts m.equity m.trades) _ (named_placed _ (places_named t m))
          (λ f. placed_under (bar_lines s.slots bar t.counts.bars_seen) _ (bar_placed _ bar _ (few_bars t m f)) (λ g. lists_placed _ _ ls)),
    ))

finish_named : (s : Settings) (t : State) (m : Rooms) → named (finish_lines s t m) ≡ true
unfolding named finish_lines room_lines setting_lines term_lines entry_lines sizing_lines slippage_lines risk_lines state_lines close_lines
finish_named s t m = refl

-- and of a finish
pub finish_place : (s : Settings) (t : State) (m : Rooms) (r : Refusal) → finish_judged s t m ≡ Err r → place_of r < 2 ^ 32
unfolding finish_judged
finish_place s t m r = place_below _ r (named_placed _ (finish_named s t m))
