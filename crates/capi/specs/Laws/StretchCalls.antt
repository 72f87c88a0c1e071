-- ysh_append and ysh_stretch: each of their refusals has a number and a place that an answer can hold, so the law over calls holds of them.
use Rattle.std.specs.Prelude.{ℕ, ◌<◌, ◌≡◌, refl, Bool, true, false, cond, ◌&&◌, List, ltb, length, Err, Ok}
use Rattle.words.specs.Prelude.{arith, ltb-true}
use Rattle.words.specs.{Limits.most_count}
use Rattle.floats.specs.{Floats.float_of, Floats.finite}
use Rattle.blocks.specs.{declared.best.Best.Best, Append.Append, Append.appended, Append.kept, Append.unchanged, Append.place_for_block}
use Rattle.blocks.specs.{Reads.reads, Reads.told}
use Rattle.capi.specs.{Stretch.BlockRooms, Stretch.append_gives, Stretch.append_call, Stretch.stretch_gives, Stretch.stretch_call, Laws.Calls.Numbered}
use Rattle.capi.specs.{Laws.Calls.Honest, Laws.Calls.honest, Laws.Calls.one_refusal, Laws.Calls.never_refuses}
use Rattle.blocks.specs.Stretch as Stretch
use Rattle.words.specs.declared.refusal.Refusal.TheVariants as Refusal

append_by : (p q r s : Bool) (held : ℕ) (closes blocks : List ℕ) → (q ≡ true → held < most_count) → (k : Append)
    → Numbered (append_gives k.answer k.closes k.blocks) →
    (let after = cond (p && q) (cond r (cond s k (unchanged (Err (Refusal.Bar held)) closes blocks)) (unchanged (Err (Refusal.Room 13)) closes blocks))
    (unchanged (Err (Refusal.Room 12)) closes blocks) in
    Numbered (append_gives after.answer after.closes after.blocks))
unfolding append_gives
append_by true true true true held closes blocks l k n = n
append_by true true true false held closes blocks l k n =
    one_refusal _ (record { some = omega arith; number = omega arith; place = omega (arith, l refl) })
append_by true true false s held closes blocks l k n = one_refusal _ (record { some = omega arith; number = omega arith; place = omega arith })
append_by true false r s held closes blocks l k n = one_refusal _ (record { some = omega arith; number = omega arith; place = omega arith })
append_by false q r s held closes blocks l k n = one_refusal _ (record { some = omega arith; number = omega arith; place = omega arith })

pub append_honest : (close : ℕ) (before : BlockRooms) →
    (let after = appended before.held close before.closes before.blocks in
    Honest (append_call close before) before (append_gives after.answer after.closes after.blocks))
unfolding append_call appended append_gives
append_honest close before = honest _ before
    (append_by (ltb before.held (length before.closes)) (ltb before.held most_count) (place_for_block before.held before.blocks)
    (finite (float_of close)) before.held before.closes before.blocks (ltb-true before.held most_count)
    (kept before.held close before.closes before.blocks) (never_refuses _))

stretch_by : (p q : Bool) (best : Best) → Numbered (stretch_gives (cond p (cond q (Ok best) (Err Refusal.Stretch)) (Err Refusal.Records)))
unfolding stretch_gives
stretch_by true true best = never_refuses _
stretch_by true false best = one_refusal _ (record { some = omega arith; number = omega arith; place = omega arith })
stretch_by false q best = one_refusal _ (record { some = omega arith; number = omega arith; place = omega arith })

pub stretch_honest : (held first last : ℕ) (closes blocks : List ℕ) (before : Best)
    → Honest (stretch_call held first last closes blocks before) before (stretch_gives (Stretch.stretched held first last closes blocks))
unfolding stretch_call Stretch.stretched
stretch_honest held first last closes blocks before =
    honest _ before (stretch_by (Stretch.holds held closes blocks) (Stretch.exists held first last) (told closes blocks (reads first _)))
