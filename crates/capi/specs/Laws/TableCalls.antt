-- The calls over a table, and over rows and lists of steps: each of their refusals has a number and a place that an answer can hold, so of
-- each the law over calls holds.
use Rattle.std.specs.Prelude.{ℕ, ◌+◌, ◌*◌, ◌<◌, ◌≤◌, ◌≡◌, refl, Bool, true, false, cond, not, ◌&&◌, List, eqb, ltb, leb, length, Err, None, Ok, Option, Result, Some}
use Rattle.words.specs.Prelude.{arith, sym, ◌∙◌, ap}
use Rattle.words.specs.{declared.refusal.Refusal.Refusal, Limits.most_slots, Limits.most_rows, Limits.most_reach, Limits.most_nodes, Limits.most_steps, Limits.trees}
use Rattle.words.specs.{Outcome.Outcome}
use Rattle.rows.specs.{History.whole_rows}
use Rattle.table.specs.{declared.trees.Tree.Tree, declared.trees.Tree.TheVariants.Entry, declared.trees.Tree.TheVariants.Exit}
use Rattle.table.specs.{declared.trees.Tree.TheVariants.ShortEntry, declared.trees.Tree.TheVariants.ShortExit, Header.newest_version, Header.mark_right}
use Rattle.table.specs.{Header.version_right, Header.counts_right, Header.total, Header.header_refusal, Header.slots, Header.tree_number, Checked.or_refused}
use Rattle.table.specs.{Checked.or_header, Checked.from7, Checked.from8, Checked.from9, Checked.checked_up_to, Checked.checked, Laws.Header.header_right}
use Rattle.table.specs.{Silent.silent_tests, Silent.silent_answer, Silent.list_after_answer}
use Rattle.needed.specs.{Depth.depth_answer}
use Rattle.rules.specs.{declared.position.PositionState.PositionState}
use Rattle.rules.specs.{Answers.state_right, Answers.after_check, Answers.judged}
use Rattle.rules.specs.{Answers.answered}
use Rattle.steps.specs.{declared.machine.Ran.Ran}
use Rattle.steps.specs.{Running.ran_if, Running.runs}
use Rattle.steps.specs.{Translating.room_for, Translating.writes_or, Translating.after_table, Translating.translates}
use Rattle.refusals.specs.{Laws.BadStep.bad_below}
use Rattle.capi.specs.{Tables.numbered_tree, Tables.CheckLent, Tables.check_gives, Tables.check_call, Tables.DepthLent, Tables.depth_gives, Tables.depth_call}
use Rattle.capi.specs.{Tables.SilentLent, Tables.silent_gives, Tables.silent_call, Tables.TranslateLent, Tables.translate_gives, Tables.translate_outcome}
use Rattle.capi.specs.{Tables.translate_call, Run.rule_gives, Run.rule_call, Run.RunLent, Run.run_gives, Run.run_call, Laws.TablePlaces.UpTo}
use Rattle.capi.specs.{Laws.TablePlaces.wrong_within, Laws.TablePlaces.misfits_within, Laws.TablePlaces.deep_within, Laws.TablePlaces.far_within}
use Rattle.capi.specs.{Laws.Calls.FitsAnswer, Laws.Calls.Numbered, Laws.Calls.Honest, Laws.Calls.honest, Laws.Calls.one_refusal, Laws.Calls.never_refuses}
use Rattle.needed.specs.{Outcome.needs}
use Rattle.table.specs.{declared.answer.Accepted.Accepted}
use Rattle.table.specs.{Outcome.accepts}
use Rattle.words.specs.{Outcome.number_of, Outcome.place_of}

-- ---- the numbers of a table's refusals

-- a refusal with a small number and place
small : (why : Refusal) → 0 < number_of why → number_of why ≤ 15 → place_of why ≤ 1024 → FitsAnswer why
small why lo hi near = record { some = lo; number = omega arith; place = omega arith }

-- a number from 1 to 9, at a place of the table
pub record OneToNine (why : Refusal) : Type 0 where
  pub some : 0 < number_of why
  pub most : number_of why ≤ 9
  pub near : place_of why ≤ 1024

one : (first why : Refusal) → 0 < number_of first → number_of first ≤ 9 → place_of first ≤ 1024 → Some first ≡ Some why → OneToNine why
one first why lo hi near e = let same : first ≡ why = cc in rw (sym same) (record { some = lo; most = hi; near = near })

five : (a b c d e : Bool) (why : Refusal)
    → cond a (Some Refusal.Size) (cond b (Some Refusal.Mark) (cond c (Some Refusal.Version) (cond d (Some Refusal.Counts) (cond e (Some Refusal.Length) None)))) ≡ Some why
    → OneToNine why
five true b c d e why h = one Refusal.Size why (omega arith) (omega arith) (omega arith) h
five false true c d e why h = one Refusal.Mark why (omega arith) (omega arith) (omega arith) h
five false false true d e why h = one Refusal.Version why (omega arith) (omega arith) (omega arith) h
five false false false true e why h = one Refusal.Counts why (omega arith) (omega arith) (omega arith) h
five false false false false true why h = one Refusal.Length why (omega arith) (omega arith) (omega arith) h
five false false false false false why h = absurd (let z : ◌≡◌ {A = ℕ} 0 1 = cc in omega arith)

-- a refusal of rules 1 to 5 has one of their numbers, and no place
header_number : (t : List ℕ) (why : Refusal) → header_refusal newest_version t ≡ Some why → OneToNine why
unfolding header_refusal
header_number t why =
    five (ltb (length t) 16) (not (mark_right t)) (not (version_right newest_version t)) (not (counts_right t)) (not (eqb (length t) (16 + 16 * total t))) why

-- a rule of the table that is broken, or what the rules below it say
rule_number : (rule : ℕ → Refusal) (q : Option ℕ) (a : Result Accepted Refusal) (why : Refusal)
    → ((p : ℕ) → (0 < number_of (rule p)) × (number_of (rule p) ≤ 9) × (place_of (rule p) ≡ p)) → UpTo most_nodes q → (a ≡ Err why → OneToNine why)
    → or_refused rule q a ≡ Err why → OneToNine why
unfolding or_refused UpTo
rule_number rule None a why says near below e = below e
rule_number rule (Some p) a why says near below e =
    let nine : OneToNine (rule p) = record { some = (says p).0; most = (says p).1; near = omega (arith, (says p).2, near) } in
    let same : rule p ≡ why = cc in rw same at nine

header_or : (t : List ℕ) (a : Result Accepted Refusal) (why : Refusal) → (header_refusal newest_version t ≡ None → a ≡ Err why → OneToNine why)
    → or_header (header_refusal newest_version t) a ≡ Err why → OneToNine why
unfolding or_header
header_or t a why below = go (header_refusal newest_version t) refl
  where
    go : (header : Option Refusal) → header_refusal newest_version t ≡ header → or_header header a ≡ Err why → OneToNine why
    go None d f = below d f
    go (Some first) d f = let same : first ≡ why = cc in header_number t why (d ∙ ap (λ (r : Refusal). Some r) same)

accepted_not : (n r : ℕ) (why : Refusal) → accepts n r ≡ Err why → OneToNine why
accepted_not n r why e = absurd (let z : ◌≡◌ {A = ℕ} 0 1 = cc in omega arith)

-- "1 to 9 come first"
pub one_to_nine : (t : List ℕ) (why : Refusal) → checked t ≡ Err why → OneToNine why
unfolding checked checked_up_to from7 from8 from9
one_to_nine t why =
    header_or t _ why
    (λ h. let r = header_right newest_version t h in
    rule_number Refusal.Node _ _ why (λ p. (omega arith, omega arith, refl)) (wrong_within t r)
    (rule_number Refusal.Tree _ _ why (λ p. (omega arith, omega arith, refl)) (misfits_within t r)
    (rule_number Refusal.Nesting _ _ why (λ p. (omega arith, omega arith, refl)) (deep_within t r)
    (rule_number Refusal.Reach _ _ why (λ p. (omega arith, omega arith, refl)) (far_within t r) (accepted_not _ _ why)))))

-- and so it stands in an answer
pub table_number : (t : List ℕ) (why : Refusal) → checked t ≡ Err why → FitsAnswer why
table_number t why e =
    let nine = one_to_nine t why e in
    record { some = nine.some; number = omega (arith, nine.most); place = omega (arith, nine.near) }

-- what a call goes by: its answer to a table
abbrev ByTable : Result Accepted Refusal → Type 0
ByTable a = (why : Refusal) → a ≡ Err why → FitsAnswer why

-- ---- ysh_check

check_numbered : (a : Result Accepted Refusal) → ByTable a → Numbered (check_gives a)
unfolding check_gives
check_numbered (Err why) s = one_refusal why (s why refl)
check_numbered (Ok accepted) s = never_refuses _

pub check_honest : (t : List ℕ) (before : CheckLent) → Honest (check_call t before) before (check_gives (checked t))
unfolding check_call
check_honest t before = honest _ before (check_numbered (checked t) (table_number t))

-- ---- ysh_depth

depth_by : (b : Bool) (rows row window : ℕ) → Numbered (depth_gives (cond b (Err (Refusal.Setting 7)) (needs rows row window)))
unfolding depth_gives
depth_by true rows row window = one_refusal _ (small _ (omega arith) (omega arith) (omega arith))
depth_by false rows row window = never_refuses _

depth_numbered : (a : Result Accepted Refusal) (t : List ℕ) (back : ℕ) → ByTable a → Numbered (depth_gives (depth_answer a t back))
unfolding depth_gives depth_answer
depth_numbered (Err why) t back s = one_refusal why (s why refl)
depth_numbered (Ok accepted) t back s = depth_by (ltb most_reach back) _ _ _

pub depth_honest : (t : List ℕ) (back : ℕ) (before : DepthLent) → Honest (depth_call t back before) before (depth_gives (depth_answer (checked t) t back))
unfolding depth_call
depth_honest t back before = honest _ before (depth_numbered (checked t) t back (table_number t))

-- ---- ysh_silent

silent_by : (b : Bool) (many : ℕ) (list : List ℕ) → Numbered (silent_gives (cond b (Err (Refusal.Room 18)) (Ok many)) list)
unfolding silent_gives
silent_by true many list = one_refusal _ (small _ (omega arith) (omega arith) (omega arith))
silent_by false many list = never_refuses _

silent_numbered : (a : Result Accepted Refusal) (numbers : List ℕ) (places : ℕ) (list : List ℕ) → ByTable a → Numbered (silent_gives (silent_answer a numbers places) list)
unfolding silent_gives silent_answer
silent_numbered (Err why) numbers places list s = one_refusal why (s why refl)
silent_numbered (Ok accepted) numbers places list s = silent_by (ltb places (length numbers)) (length numbers) list

pub silent_honest : (t : List ℕ) (rows : ℕ) (before : SilentLent) →
    (let answer = silent_answer (checked t) (silent_tests t rows) (length before.list) in
    Honest (silent_call t rows before) before (silent_gives answer (list_after_answer answer (silent_tests t rows) before.list)))
unfolding silent_call
silent_honest t rows before = honest _ before (silent_numbered (checked t) (silent_tests t rows) (length before.list) _ (table_number t))

-- ---- ysh_translate

translate_by : (b : Bool) (x count : ℕ) (room : List ℕ) → x ≤ 3
    → Numbered (translate_gives (cond b (Err (Refusal.Room (3 + x))) (Ok count)) room)
unfolding translate_gives
translate_by true x count room h = one_refusal _ (small _ (omega arith) (omega arith) (omega arith))
translate_by false x count room h = never_refuses _

translate_numbered : (a : Result Accepted Refusal) (t : List ℕ) (x : ℕ) (lent after : List ℕ) → x ≤ 3 → ByTable a
    → Numbered (translate_gives (after_table a (writes_or t x lent)) after)
unfolding translate_gives after_table writes_or
translate_numbered (Err why) t x lent after h s = one_refusal why (s why refl)
translate_numbered (Ok accepted) t x lent after h s = translate_by (ltb (length lent) (room_for t x)) x _ after h

absent_numbered : (a : Result Accepted Refusal) (room : List ℕ) → ByTable a → Numbered (translate_gives (after_table a (Ok 0)) room)
unfolding translate_gives after_table
absent_numbered (Err why) room s = one_refusal why (s why refl)
absent_numbered (Ok accepted) room s = never_refuses _

tree_number_lem : (tree : Tree) → tree_number tree ≤ 3
tree_number_lem Entry = omega arith
tree_number_lem Exit = omega arith
tree_number_lem ShortEntry = omega arith
tree_number_lem ShortExit = omega arith

either_numbered : {A : Type 0} (b : Bool) (x y : Outcome A) → Numbered x → Numbered y → Numbered (cond b x y)
either_numbered true x y n m = n
either_numbered false x y n m = m

pub translate_honest : (t : List ℕ) (tree : ℕ) (before : TranslateLent)
    → Honest (translate_call t tree before) before (translate_outcome t tree before.room)
unfolding translate_call translate_outcome translates
translate_honest t tree before =
    honest _ before
    (either_numbered (leb trees tree) _ _ (absent_numbered (checked t) before.room (table_number t))
    (translate_numbered (checked t) t _ before.room _ (tree_number_lem (numbered_tree tree)) (table_number t)))

-- ---- ysh_rule

rule_by : (b said : Bool) (tree : ℕ) → Numbered (rule_gives (cond b (Ok said) (Err Refusal.Records)) tree)
unfolding rule_gives
rule_by true said tree = never_refuses _
rule_by false said tree = one_refusal _ (small _ (omega arith) (omega arith) (omega arith))

rule_numbered : (a : Result Accepted Refusal) (t : List ℕ) (x : ℕ) (rows : List ℕ) (s : PositionState) (tree : ℕ) → ByTable a
    → Numbered (rule_gives (after_check a (judged t x rows s)) tree)
unfolding rule_gives after_check judged
rule_numbered (Err why) t x rows s tree n = one_refusal why (n why refl)
rule_numbered (Ok accepted) t x rows s tree m = rule_by (whole_rows (slots t) rows && state_right s) _ tree

pub rule_honest : (t : List ℕ) (tree : ℕ) (rows : List ℕ) (s : PositionState) (before : ℕ)
    → Honest (rule_call t tree rows s before) before (rule_gives (answered t (numbered_tree tree) rows s) tree)
unfolding rule_call answered
rule_honest t tree rows s before = honest _ before (rule_numbered (checked t) t _ rows s tree (table_number t))

-- ---- ysh_run

-- a list's bad step is one of its at most 1,024
abbrev Near : Result (Unit {0}) ℕ → Type 0
Near f = (p : ℕ) → f ≡ Err p → p < most_steps

run_formed : (f : Result (Unit {0}) ℕ) (r : Ran) → Near f → Numbered (run_gives (ran_if f r))
unfolding run_gives ran_if
run_formed (Ok _) r near = never_refuses _
run_formed (Err p) r near = one_refusal _ (small _ (omega arith) (omega arith) (omega (arith, near p refl)))

run_by : (b c d e : Bool) (f : Result (Unit {0}) ℕ) (r : Ran) → Near f
    → Numbered (run_gives (cond b (Err (Refusal.Setting 0)) (cond c (Err (Refusal.Setting 1)) (cond d (Err (Refusal.Setting 1))
    (cond e (ran_if f r) (Err Refusal.Records))))))
unfolding run_gives
run_by true c d e f r near = one_refusal _ (small _ (omega arith) (omega arith) (omega arith))
run_by false true d e f r near = one_refusal _ (small _ (omega arith) (omega arith) (omega arith))
run_by false false true e f r near = one_refusal _ (small _ (omega arith) (omega arith) (omega arith))
run_by false false false true f r near = run_formed f r near
run_by false false false false f r near = one_refusal _ (small _ (omega arith) (omega arith) (omega arith))

pub run_honest : (list rows : List ℕ) (K D : ℕ) (s : PositionState) (before : RunLent)
    → Honest (run_call list rows K D s before) before (run_gives (runs list rows K D s))
unfolding run_call runs
run_honest list rows K D s before =
    honest _ before (run_by (ltb most_slots K) (ltb D 1) (ltb most_rows D) (whole_rows K rows && state_right s) _ _ (bad_below K D list))
