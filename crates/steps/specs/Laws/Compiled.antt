-- The steps of a tree answer what the tree means.
use Rattle.std.specs.Prelude.{ℕ, ◌+◌, ◌≡◌, refl, Bool, true, false, not, cond, ◌&&◌, ◌||◌, List, [], ◌∷◌, ◌++◌, length, Float, Option}
use Rattle.words.specs.Prelude.{sym, ap, ◌∙◌, append_assoc, append-nil}
use Rattle.rows.specs.{History.History}
use Rattle.table.specs.{Trees.Operand, Trees.const, Trees.ref, Trees.price, Trees.prev, Trees.arith as sums, Trees.extreme, Trees.Condition, Trees.Conditions}
use Rattle.table.specs.{Trees.compare, Trees.cross, Trees.between, Trees.trend, Trees.every, Trees.any, Trees.negated, Trees.in_position, Trees.bars_since}
use Rattle.table.specs.{Trees.none, Trees.more}
use Rattle.rules.specs.{declared.position.PositionState.PositionState, Meaning.holds, Meaning.all_hold, Meaning.any_holds}
use Rattle.rules.specs.{Meaning.newest, Meaning.says}
use Rattle.steps.specs.{declared.step.Op.Op, declared.step.Op.TheVariants.Arith, declared.step.Op.TheVariants.Compare}
use Rattle.steps.specs.{declared.step.Op.TheVariants.Cross, declared.step.Op.TheVariants.Between, declared.step.Op.TheVariants.Turn}
use Rattle.steps.specs.{declared.step.Op.TheVariants.JumpIf, Machine.Values, Machine.ago, Machine.does, Machine.effect, Machine.after_step, Machine.run}
use Rattle.steps.specs.{Machine.start, Machine.answers, Translation.code, Translation.code_of, Translation.code_each, Translation.trend_test}
use Rattle.steps.specs.{Laws.Ago.arith_ago, Laws.Ago.prev-ago, Laws.Ago.now_ago, Laws.Ago.cross_ago, Laws.Ago.trend_ago}

abbrev holding : Bool → List (Option Float) → Values
holding b vs = record { stack = vs; answer = b }

abbrev push : Option Float → Values → Values
push v x = record { stack = v ∷ x.stack; answer = x.answer }

module _ (h : History) (s : PositionState) where
  -- the steps of an operand push its value
  operand_run : (a : Operand) (n : ℕ) (xs : List Op) (v : Values)
      → run h s (code a n ++ xs) 0 v ≡ run h s xs 0 (push (ago h a n) v)
  unfolding code run does effect after_step
  operand_run (const b) n xs v = refl
  operand_run (ref k) n xs v = refl
  operand_run (price k) n xs v = refl
  operand_run (extreme k over m) n xs v = refl
  operand_run (prev a m) n xs v = rw (prev-ago h a m n) (operand_run a (n + m) xs v)
  operand_run (sums k a b) n xs v =
      rw (
        append_assoc (code a n) (code b n ++ Arith k ∷ []) xs,
        operand_run a n ((code b n ++ Arith k ∷ []) ++ xs) v,
        append_assoc (code b n) (Arith k ∷ []) xs,
        operand_run b n (Arith k ∷ xs) (push (ago h a n) v),
        arith_ago h k a b n,
      )

  -- a jump over the whole of a list
  passed : (ys xs : List Op) (v : Values) → run h s (ys ++ xs) (length ys) v ≡ run h s xs 0 v
  unfolding run
  passed [] xs v = refl
  passed (y ∷ ys) xs v = passed ys xs v

  two_run : (a b : Operand) (m n : ℕ) (x : Op) (xs : List Op) (v : Values)
      → run h s ((code a m ++ (code b n ++ x ∷ [])) ++ xs) 0 v ≡ run h s (x ∷ xs) 0 (push (ago h b n) (push (ago h a m) v))
  two_run a b m n x xs v =
      rw (
        append_assoc (code a m) (code b n ++ x ∷ []) xs,
        operand_run a m ((code b n ++ x ∷ []) ++ xs) v,
        append_assoc (code b n) (x ∷ []) xs,
        operand_run b n (x ∷ xs) (push (ago h a m) v),
      )

  -- a child's answer b, and t for the rest: All (w is no) goes on at a yes, Any (w is yes) at a no
  each_next : (w b t : Bool) (ys xs : List Op) (vs : List (Option Float)) → run h s (ys ++ xs) 0 (holding (not w) vs) ≡ run h s xs 0 (holding t vs)
      → run h s (JumpIf w (length ys) ∷ ys ++ xs) 0 (holding b vs) ≡ run h s xs 0 (holding (cond w (b || t) (b && t)) vs)
  unfolding run does effect after_step
  each_next true true t ys xs vs ih = passed ys xs (holding true vs)
  each_next true false t ys xs vs ih = ih
  each_next false true t ys xs vs ih = ih
  each_next false false t ys xs vs ih = passed ys xs (holding false vs)

  mutual
    unfolding code_of holds run does effect after_step

    pub condition_run : (c : Condition) (xs : List Op) (v : Values)
        → run h s (code_of c ++ xs) 0 v ≡ run h s xs 0 (holding (holds h s c (newest h)) v.stack)
    condition_run (compare k a b) xs v = rw (two_run a b 0 0 (Compare k) xs v, now_ago h a, now_ago h b)
    condition_run (cross k a b) xs v =
        rw (
          append_assoc (code a 0) (code b 0 ++ (code a 1 ++ (code b 1 ++ Cross k ∷ []))) xs,
          operand_run a 0 ((code b 0 ++ (code a 1 ++ (code b 1 ++ Cross k ∷ []))) ++ xs) v,
          append_assoc (code b 0) (code a 1 ++ (code b 1 ++ Cross k ∷ [])) xs,
          operand_run b 0 ((code a 1 ++ (code b 1 ++ Cross k ∷ [])) ++ xs) (push (ago h a 0) v),
          two_run a b 1 1 (Cross k) xs (push (ago h b 0) (push (ago h a 0) v)),
          cross_ago h k a b,
        )
    condition_run (between x l u) xs v =
        rw (
          append_assoc (code x 0) (code l 0 ++ (code u 0 ++ Between ∷ [])) xs,
          operand_run x 0 ((code l 0 ++ (code u 0 ++ Between ∷ [])) ++ xs) v,
          two_run l u 0 0 Between xs (push (ago h x 0) v),
          now_ago h x,
          now_ago h l,
          now_ago h u,
        )
    condition_run (trend k a n) xs v = rw (two_run a a 0 n (Compare (trend_test k)) xs v, trend_ago h k a n)
    condition_run (every cs) xs v = all_run cs xs v.stack
    condition_run (any cs) xs v = any-run cs xs v.stack
    condition_run (negated c) xs v = rw (append_assoc (code_of c) (Turn ∷ []) xs, condition_run c (Turn ∷ xs) v)
    condition_run (in_position w) xs v = refl
    condition_run (bars_since p k) xs v = refl

    all_run : (cs : Conditions) (xs : List Op) (vs : List (Option Float))
        → run h s (code_each false cs ++ xs) 0 (holding true vs) ≡ run h s xs 0 (holding (all_hold h s cs (newest h)) vs)
    all_run none xs vs = refl
    all_run (more c cs) xs vs =
        rw (
          append_assoc (code_of c) (JumpIf false (length (code_each false cs)) ∷ code_each false cs) xs,
          condition_run c (JumpIf false (length (code_each false cs)) ∷ code_each false cs ++ xs) (holding true vs),
        )
        (each_next false (holds h s c (newest h)) (all_hold h s cs (newest h)) (code_each false cs) xs vs (all_run cs xs vs))

    any-run : (cs : Conditions) (xs : List Op) (vs : List (Option Float))
        → run h s (code_each true cs ++ xs) 0 (holding false vs) ≡ run h s xs 0 (holding (any_holds h s cs (newest h)) vs)
    any-run none xs vs = refl
    any-run (more c cs) xs vs =
        rw (
          append_assoc (code_of c) (JumpIf true (length (code_each true cs)) ∷ code_each true cs) xs,
          condition_run c (JumpIf true (length (code_each true cs)) ∷ code_each true cs ++ xs) (holding false vs),
        )
        (each_next true (holds h s c (newest h)) (any_holds h s cs (newest h)) (code_each true cs) xs vs (any-run cs xs vs))

-- THE TRANSLATION: the steps of a condition, run from the start, answer what the condition means at the newest bar.
pub compiled : (h : History) (s : PositionState) (c : Condition) → answers h s (code_of c) ≡ says h s c
unfolding run says
compiled h s c =
    ap (λ (xs : List Op). answers h s xs) (sym (append-nil (code_of c)))
    ∙ ap (λ (v : Values). v.answer) (condition_run h s c [] start)
