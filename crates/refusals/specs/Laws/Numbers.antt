-- Every refusal of a step and of a finish has a number from 10 to 16.
use Rattle.std.specs.Prelude.{ℕ, ◌≤◌, ◌≡◌, refl, Bool, true, false, cond, ◌&&◌, List, [], ◌∷◌, ◌++◌, leb, Err}
use Rattle.words.specs.Prelude.{sym, arith, leb-true}
use Rattle.words.specs.{declared.refusal.Refusal.Refusal}
use Rattle.records.specs.{declared.settings.Settings.Settings, declared.state.State.State, Lent.Rooms, Lent.Lists}
use Rattle.refusals.specs.{Lines.Line, Lines.judged, Settings.sizing_lines}
use Rattle.refusals.specs.{Settings.slippage_lines, Settings.risk_lines, Settings.term_lines, Settings.entry_lines, Settings.setting_lines, Rooms.room_lines}
use Rattle.refusals.specs.{Rooms.state_lines, Rooms.place_lines, Rooms.close_lines, Bar.bar_lines, Lists.list_lines, Judgement.run_lines, Judgement.step_lines}
use Rattle.refusals.specs.{Judgement.finish_lines, Laws.Lines.never, Laws.Lines.and_true}
use Rattle.refusals.specs.{Lines.Verdict}
use Rattle.words.specs.{Outcome.number_of}

-- the numbers of all lines
unfoldable pub numbered : List Line → Bool
numbered [] = true
numbered (l ∷ ls) = leb 10 (number_of l.why) && leb (number_of l.why) 16 && numbered ls

by_line : (ok : Bool) (v : Verdict) (why r : Refusal) → 10 ≤ number_of why → number_of why ≤ 16 → (v ≡ Err r → (10 ≤ number_of r) × (number_of r ≤ 16))
    → cond ok v (Err why) ≡ Err r → (10 ≤ number_of r) × (number_of r ≤ 16)
by_line true v why r lo hi below e = below e
by_line false v why r lo hi below e = let same : number_of why ≡ number_of r = cc in (omega arith, omega arith)

-- the refusal that lines come to has the number of one of them
pub number_within : (ls : List Line) (r : Refusal) → numbered ls ≡ true → judged ls ≡ Err r → (10 ≤ number_of r) × (number_of r ≤ 16)
unfolding judged numbered
number_within [] r n e = never (sym e)
number_within (l ∷ ls) r n e =
    let rest = and_true _ _ n in
    let own = and_true _ _ rest.0 in
    by_line l.ok (judged ls) l.why r (leb-true _ _ own.0) (leb-true _ _ own.1) (number_within ls r rest.1) e

-- lines below others
pub both_numbered : (a b : List Line) → numbered a ≡ true → numbered b ≡ true → numbered (a ++ b) ≡ true
unfolding numbered
both_numbered [] b n k = k
both_numbered (l ∷ a) b n k =
    let own = and_true (leb 10 (number_of l.why) && leb (number_of l.why) 16) (numbered a) n in
    rw own.0 (both_numbered a b own.1 k)

pub step_numbered : (s : Settings) (t : State) (bar : List ℕ) (m : Rooms) (ls : Lists) → numbered (step_lines s t bar m ls) ≡ true
unfolding numbered step_lines run_lines room_lines setting_lines term_lines entry_lines sizing_lines slippage_lines risk_lines state_lines place_lines bar_lines list_lines
step_numbered s t bar m ls = refl

pub finish_numbered : (s : Settings) (t : State) (m : Rooms) → numbered (finish_lines s t m) ≡ true
unfolding numbered finish_lines room_lines setting_lines term_lines entry_lines sizing_lines slippage_lines risk_lines state_lines close_lines
finish_numbered s t m = refl
