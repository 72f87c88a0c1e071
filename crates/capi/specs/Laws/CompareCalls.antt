-- ysh_compare: each of its refusals has a number and a place that an answer can hold, so the law over calls holds of it.
use Rattle.std.specs.Prelude.{ℕ, ◌*◌, Bool, true, false, cond, ◌&&◌, List, leb, length, Ok, Err}
use Rattle.words.specs.Prelude.{arith}
use Rattle.words.specs.{Words.overwrite}
use Rattle.differences.specs.{Lines.line_words, Lines.differences, Lines.words_of, Compared.Comparison}
use Rattle.differences.specs.{Compared.compared, Compared.written, Compared.whole}
use Rattle.capi.specs.{Compare.LineRooms, Compare.compare_gives, Compare.compare_call, Laws.Calls.Numbered, Laws.Calls.Honest, Laws.Calls.honest}
use Rattle.capi.specs.{Laws.Calls.one_refusal, Laws.Calls.never_refuses}
use Rattle.words.specs.declared.refusal.Refusal.TheVariants as Refusal

compare_by : (p q : Bool) (n : ℕ) (room lines : List ℕ) →
    (let after = cond {A = Comparison} p (cond q (record { answer = Ok n; room = lines }) (record { answer = Err (Refusal.Room 15); room = room }))
    (record { answer = Err Refusal.Records; room = room }) in
    Numbered (compare_gives after.answer after.room))
unfolding compare_gives
compare_by true true n room lines = never_refuses _
compare_by true false n room lines = one_refusal _ (record { some = omega arith; number = omega arith; place = omega arith })
compare_by false q n room lines = one_refusal _ (record { some = omega arith; number = omega arith; place = omega arith })

pub compare_honest : (equity list otherEquity otherList : List ℕ) (before : LineRooms) →
    (let after = compared equity list otherEquity otherList before.lines in
    Honest (compare_call equity list otherEquity otherList before) before (compare_gives after.answer after.room))
unfolding compare_call compared written
compare_honest equity list otherEquity otherList before = honest _ before
    (compare_by (whole equity list && whole otherEquity otherList)
    (leb (line_words * length (differences equity list otherEquity otherList)) (length before.lines))
    (length (differences equity list otherEquity otherList)) before.lines
    (overwrite before.lines 0 (words_of (differences equity list otherEquity otherList))))
