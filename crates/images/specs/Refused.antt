-- What a restore refuses: 10, 12, 19, 20; and what a refused call leaves.
use Rattle.std.specs.Prelude.{ℕ, ◌+◌, ◌-◌, ◌/◌, ◌%◌, ◌^◌, Bool, true, false, ◌&&◌, ◌||◌, List, [], ◌∷◌, ◌++◌, length, get_or, leb, ltb, eqb, Err, Ok}
use Rattle.words.specs.{Limits.most_slots, Limits.most_rows}
use Rattle.records.specs.{declared.settings.Settings.Settings, StateWords.entered_of}
use Rattle.refusals.specs.{Bar.every}
use Rattle.refusals.specs.{Bar.bar_lines, Lines.Line, Lines.line, Lines.judged, Rooms.room_lines, Rooms.entry_below, Settings.setting_lines}
use Rattle.images.specs.{Layout.head_bytes, Layout.dump_bytes, Reading.slots_in, Reading.version_in, Reading.depth_in, Reading.seen_in, Reading.rows_in}
use Rattle.images.specs.{Reading.order_in, Reading.kind_in, Reading.entered_in, Reading.entry_in, Reading.delay_in, Reading.level_in, Reading.limit_in}
use Rattle.images.specs.{Reading.row_place, Reading.row_in}
use Rattle.refusals.specs.{Lines.Verdict}
use Rattle.words.specs.declared.refusal.Refusal.TheVariants as Refusal

-- "another mark or version, D outside 1 to 4,096, K above 64, a size not theirs"; one with no whole header has no size of its own
unfoldable pub shape_fine : List ℕ → Bool
shape_fine x =
    leb head_bytes (length x)
    && eqb (get_or x 0 0) 87 && eqb (get_or x 1 0) 68 && eqb (get_or x 2 0) 80
    && eqb (version_in x) 1
    && leb 1 (depth_in x) && leb (depth_in x) most_rows
    && leb (slots_in x) most_slots
    && eqb (length x) (dump_bytes (slots_in x) (depth_in x))

-- "more rows than D or bars seen, an entry bar not below bars seen, .. an unknown kind"
unfoldable pub numbers_fine : List ℕ → Bool
numbers_fine x =
    leb (rows_in x) (depth_in x) && leb (rows_in x) (seen_in x)
    && leb (order_in x) 3 && leb (kind_in x) 3 && leb (entered_in x) 1
    && entry_below (entered_of (entered_in x) (entry_in x)) (seen_in x)

-- a field that is not used is zero
abbrev pub used_or_zero : Bool → ℕ → Bool
used_or_zero used w = used || eqb w 0

-- an order 1 or 2 is an entry
abbrev pub is_entry : ℕ → Bool
is_entry order = eqb order 1 || eqb order 2

-- Decided: spare are also the fields that their kind does not use: the delay of no order, the kind of an order that is no entry, the level
-- of a market order, the limit of any but a stop-limit, the entry bar where none is entered.
unfoldable pub unused_zero : List ℕ → Bool
unused_zero x =
    used_or_zero (ltb 0 (order_in x)) (delay_in x)
    && used_or_zero (is_entry (order_in x)) (kind_in x)
    && used_or_zero (ltb 0 (kind_in x)) (level_in x)
    && used_or_zero (eqb (kind_in x) 3) (limit_in x)
    && used_or_zero (ltb 0 (entered_in x)) (entry_in x)

-- n bytes from `at` on
unfoldable pub zero_at : List ℕ → ℕ → ℕ → Bool
zero_at x at n = every n (λ i. eqb (get_or x (at + i) 0) 0)

abbrev pub is_fine : Verdict → Bool
is_fine (Ok _) = true
is_fine (Err why) = false

-- "an absent slot's word is 0": of a row, by its mask
unfoldable pub absent_zero : ℕ → List ℕ → Bool
absent_zero K row = every K (λ k. used_or_zero (eqb (get_or row 6 0 / 2 ^ k % 2) 1) (get_or row (7 + k) 0))

-- "a row 11 would refuse": a row is a bar with no funding behind its slots
unfoldable pub row_fine : ℕ → List ℕ → Bool
row_fine K row = is_fine (judged (bar_lines K row 0)) && absent_zero K row

-- each row
unfoldable pub each_fine : List ℕ → ℕ → ℕ → Bool
each_fine x K n = every n (λ i. row_fine K (row_in x K i))

-- and the zero rows behind the last
unfoldable pub rows_fine : List ℕ → Bool
rows_fine x =
    each_fine x (slots_in x) (rows_in x)
    && zero_at x (row_place (slots_in x) (rows_in x)) (length x - row_place (slots_in x) (rows_in x))

-- "19 for another mark or version, D outside 1 to 4,096, K above 64, a size not theirs, more rows than D or bars seen, an entry bar not
-- below bars seen, a row 11 would refuse, an unknown kind or a nonzero spare byte": 19 and 136 to 255 are spare
unfoldable pub image_lines : List ℕ → List Line
image_lines x =
    line (shape_fine x) Refusal.Image
    ∷ line (numbers_fine x) Refusal.Image
    ∷ line (unused_zero x) Refusal.Image
    ∷ line (eqb (get_or x 19 0) 0) Refusal.Image
    ∷ line (zero_at x 136 120) Refusal.Image
    ∷ line (rows_fine x) Refusal.Image
    ∷ []

-- "then 20 if its D or K is not that of the table and settings"
unfoldable pub same_lines : Settings → List ℕ → List Line
same_lines s x = line (eqb (depth_in x) s.depth) Refusal.Other ∷ line (eqb (slots_in x) s.slots) Refusal.Other ∷ []

unfoldable pub restore_lines : Settings → List ℕ → List ℕ → List Line
restore_lines s x rows = room_lines s rows ++ (setting_lines s ++ (image_lines x ++ same_lines s x))

unfoldable pub restore_judged : Settings → List ℕ → List ℕ → Verdict
restore_judged s x rows = judged (restore_lines s x rows)

-- "A refusal .. changes nothing lent."
unfoldable pub left_by : Verdict → List ℕ → List ℕ → List ℕ
left_by (Ok _) after before = after
left_by (Err why) after before = before
