-- What an image that is judged fine has been seen to have.
use Rattle.std.specs.Prelude.{ℕ, ◌*◌, ◌≤◌, ◌≡◌, true, ◌&&◌, List, leb, eqb, length, get_or, Ok}
use Rattle.words.specs.Prelude.{sym, ap, ◌∙◌, mul_assoc, mul_comm, mul-le-mul_right, arith, leb-true, eqb-true}
use Rattle.words.specs.{Limits.row_words, Limits.most_slots, Limits.most_rows}
use Rattle.records.specs.{declared.settings.Settings.Settings, Lent.row_places}
use Rattle.refusals.specs.{Rooms.room_lines, Settings.setting_lines, Laws.Lines.and_true}
use Rattle.refusals.specs.{Laws.Lines.first_holds, Laws.Lines.both_fine}
use Rattle.images.specs.{Layout.head_bytes, Layout.dump_bytes, Reading.slots_in, Reading.version_in, Reading.depth_in, Reading.seen_in, Reading.rows_in}
use Rattle.images.specs.{Reading.row_place, Refused.shape_fine, Refused.numbers_fine, Refused.image_lines, Refused.same_lines, Refused.restore_lines}
use Rattle.images.specs.{Refused.restore_judged}

-- what an image of a fine shape has
pub record ShapeFine (x : List ℕ) : Type 0 where
  pub depth : depth_in x ≤ most_rows
  pub slots : slots_in x ≤ most_slots
  pub long : length x ≡ dump_bytes (slots_in x) (depth_in x)

pub shape_fine_lem : (x : List ℕ) → shape_fine x ≡ true → ShapeFine x
unfolding shape_fine
shape_fine_lem x h =
    let size = and_true _ (eqb (length x) (dump_bytes (slots_in x) (depth_in x))) h in
    let slots = and_true _ (leb (slots_in x) most_slots) size.0 in
    let depth =
    and_true
    (leb head_bytes (length x) && eqb (get_or x 0 0) 87 && eqb (get_or x 1 0) 68 && eqb (get_or x 2 0) 80 && eqb (version_in x) 1 && leb 1 (depth_in x))
    (leb (depth_in x) most_rows) slots.0 in
    record { depth = leb-true _ _ depth.1; slots = leb-true _ _ slots.1; long = eqb-true _ _ size.1 }

-- no more rows than D
pub rows_few : (x : List ℕ) → numbers_fine x ≡ true → rows_in x ≤ depth_in x
unfolding numbers_fine
rows_few x h =
    let a = (and_true _ _ h).0 in
    let b = (and_true _ _ a).0 in
    let c = (and_true _ _ b).0 in
    let d = (and_true _ _ c).0 in
    leb-true _ _ (and_true (leb (rows_in x) (depth_in x)) (leb (rows_in x) (seen_in x)) d).0

-- and they lie within it
pub rows_within : (x : List ℕ) → ShapeFine x → rows_in x ≤ depth_in x → row_place (slots_in x) (rows_in x) ≤ length x
unfolding dump_bytes
rows_within x shape few =
    let w = row_words (slots_in x) in
    let bytes : depth_in x * (8 * w) ≡ 8 * (depth_in x * w) =
    sym (mul_assoc (depth_in x) 8 w) ∙ ap (λ (m : ℕ). m * w) (mul_comm (depth_in x) 8) ∙ mul_assoc 8 (depth_in x) w in
    omega (arith, shape.long, bytes, mul-le-mul_right w few)

-- what a restore that is judged fine has been seen to have
pub record RestoreFine (s : Settings) (x rows : List ℕ) : Type 0 where
  pub room : s.depth ≤ row_places s.slots rows
  pub shape : ShapeFine x
  pub few : rows_in x ≤ depth_in x
  pub depth : depth_in x ≡ s.depth
  pub slots : slots_in x ≡ s.slots

pub restore_fine : (s : Settings) (x rows : List ℕ) → restore_judged s x rows ≡ Ok tt → RestoreFine s x rows
unfolding restore_judged restore_lines room_lines image_lines same_lines
restore_fine s x rows h =
    let room = both_fine (room_lines s rows) _ h in
    let rest = both_fine (setting_lines s) _ room.1 in
    let whole = both_fine (image_lines x) _ rest.1 in
    let shape = first_holds _ _ whole.0 in
    let numbers = first_holds _ _ shape.1 in
    let depth = first_holds _ _ whole.1 in
    record {
      room = leb-true _ _ (first_holds _ _ room.0).0;
      shape = shape_fine_lem x shape.0;
      few = rows_few x numbers.0;
      depth = eqb-true _ _ depth.0;
      slots = eqb-true _ _ (first_holds _ _ depth.1).0;
    }
