-- A tree that no table has, then the translation of one that it may have: the definition's cases, in its order. The steps lie within
-- the room, so that their bytes can be counted.
use Rattle.words.specs.Prelude.{sym, ◌∙◌, arith, le-leb, lt-leb}
use Rattle.steps.specs.{Translating.after_table, Translating.room_after, Translating.room_left}
use Rattle.capi.specs.{Tables.translate_call, Tables.translate_outcome, Tables.translate_gives}
use Rattle.capi.proofs.{Calling.call_refuses, Calling.call_does, Writing.writes_within}
use Rattle.capi.proofs.tables.ysh_translate.Goals as goal

pub returns-in-Err : goal.returns-in-Err
unfolding translate_call translate_outcome translate_gives after_table
returns-in-Err c =
    call_refuses _ _ (simp (le-leb _ _ c.if-tree-ge-TREES.true, sym c.check-checked.ensures.0 ∙ c.in-Err.is))
    c.answer_word.ensures

pub returns-in-Ok : goal.returns-in-Ok
unfolding translate_call translate_outcome translate_gives after_table
returns-in-Ok c =
    call_does _ _ (simp (le-leb _ _ c.if-tree-ge-TREES.true, sym c.check-checked.ensures.0 ∙ c.in-Ok.is))

pub overflow_mul-used : goal.overflow_mul-used
overflow_mul-used c =
    omega (arith, writes_within _ _ _ _ _ (sym c.translate-translated.ensures.value ∙ c.in-Ok-translated.is) c.translate-translated.ensures.room_after)

pub returns-in-Err-translated : goal.returns-in-Err-translated
unfolding translate_call translate_outcome translate_gives room_left room_after
returns-in-Err-translated c =
    let told = sym (rw c.numbered_tree.ensures at c.translate-translated.ensures.value) ∙ c.in-Err-translated.is in
    let room = rw c.numbered_tree.ensures at c.translate-translated.ensures.room_after in
    call_refuses _ _ (simp (lt-leb _ _ c.if-tree-ge-TREES.false, told)) c.answer_word-in-Err-translated.ensures ∙ simp (room, told)

pub returns-in-Ok-translated : goal.returns-in-Ok-translated
unfolding translate_call translate_outcome translate_gives
returns-in-Ok-translated c =
    let told = sym (rw c.numbered_tree.ensures at c.translate-translated.ensures.value) ∙ c.in-Ok-translated.is in
    let room = rw c.numbered_tree.ensures at c.translate-translated.ensures.room_after in
    call_does _ _ (simp (lt-leb _ _ c.if-tree-ge-TREES.false, told, room))
