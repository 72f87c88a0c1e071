-- EXACT TOTALS IN C: every way to total the same trades by ysh_totals and ysh_totals_join answers 0 at every call and leaves the same 43 words.
use Rattle.std.specs.Prelude.{ℕ, ◌≤◌, ◌≡◌, refl, List, length, replicate, Ok, Result}
use Rattle.words.specs.Prelude.{ap, ◌∙◌}
use Rattle.words.specs.{Limits.most_count}
use Rattle.totals.specs.{Totals.total_words, Totals.add_answer}
use Rattle.totals.specs.{Totals.add_leaves, Totals.join_answer, Totals.join_leaves, Ways.Way, Ways.begin, Ways.add, Ways.join, Ways.made, Ways.AllDone}
use Rattle.totals.specs.{Ways.trades_in, Ways.WholeLists, Ways.totals_of, Laws.Trades.Acceptable, ExactTotals.exact_totals}
use Rattle.replies.specs.{Call.call_of}
use Rattle.capi.specs.{Totals.totals_gives, Totals.totals_call, Totals.join_call}
use Rattle.words.specs.{declared.refusal.Refusal.Refusal}

-- the words that the calls of a way leave, begun with 43 zeros
unfoldable pub called_by : Way → List ℕ
called_by begin = replicate total_words 0
called_by (add w list) = (totals_call (called_by w) list).lent
called_by (join v w) = (join_call (called_by v) (called_by w)).lent

-- every call of it answers 0
unfoldable pub AllZero : Way → Type 0
AllZero begin = Unit {0}
AllZero (add w list) = AllZero w × ((totals_call (called_by w) list).answer ≡ 0)
AllZero (join v w) = AllZero v × AllZero w × ((join_call (called_by v) (called_by w)).answer ≡ 0)

-- a call of which the crate below says that it is done
does : (a : Result (Unit {0}) Refusal) (before after : List ℕ) → a ≡ Ok tt
    → ((call_of (totals_gives a after) before).answer ≡ 0) × ((call_of (totals_gives a after) before).lent ≡ after)
unfolding call_of totals_gives
does a before after h = (simp h, simp h)

-- where all is done the calls leave what the crate below leaves, and answer 0
pub calls_do : (w : Way) → AllDone w → AllZero w × (called_by w ≡ made w)
unfolding AllDone AllZero called_by made totals_call join_call
calls_do begin h = (tt, refl)
calls_do (add w list) h =
    let before = calls_do w h.0 in
    let call = does (add_answer (called_by w) list) (called_by w) (add_leaves (called_by w) list) (ap (λ (t : List ℕ). add_answer t list) before.1 ∙ h.1) in
    ((before.0, call.0), call.1 ∙ ap (λ (t : List ℕ). add_leaves t list) before.1)
calls_do (join v w) h =
    let one = calls_do v h.0 in
    let two = calls_do w h.1 in
    let told = ap (λ (t : List ℕ). join_answer t (called_by w)) one.1 ∙ ap (join_answer (made v)) two.1 ∙ h.2 in
    let call = does (join_answer (called_by v) (called_by w)) (called_by v) (join_leaves (called_by v) (called_by w)) told in
    ((one.0, two.0, call.0), call.1 ∙ ap (λ (t : List ℕ). join_leaves t (called_by w)) one.1 ∙ ap (join_leaves (made v)) two.1)

-- EXACT TOTALS, of the calls.
pub exact_totals_in_c : (w : Way) → WholeLists w → Acceptable (trades_in w) → length (trades_in w) ≤ most_count
    → AllZero w × (called_by w ≡ totals_of (trades_in w))
exact_totals_in_c w h a few =
    let below = exact_totals w h a few in
    let calls = calls_do w below.0 in
    (calls.0, calls.1 ∙ below.1)
