-- "A cut after any byte leaves an image that is refused, or the whole one."
use Rattle.std.specs.Prelude.{ℕ, ◌≤◌, ◌<◌, ◌≡◌, List, length, take, Err, Ok}
use Rattle.words.specs.Prelude.{sym, ◌∙◌, arith, get_or-take}
use Rattle.words.specs.{Laws.Records.records_fit, Limits.row_words}
use Rattle.records.specs.{declared.settings.Settings.Settings, declared.state.State.State, Lent.row_places, StateWords.words_of}
use Rattle.engine.specs.{Record.held_rows}
use Rattle.refusals.specs.{Lines.judged, Rooms.room_lines}
use Rattle.refusals.specs.{Settings.setting_lines}
use Rattle.images.specs.{Layout.dump_bytes, Layout.window_of, Layout.image_of, Refused.restore_judged}
use Rattle.dump.specs.{Order.written, Laws.Image.image_long, Laws.Image.window_short}
use Rattle.restart.specs.{FirstWord.Unmarked, FirstWord.unmarked_refused, OrderPlan.all_written, OrderPlan.mark_stays}
use Rattle.words.specs.declared.refusal.Refusal.TheVariants as Refusal

module _ (s : Settings) (t : State) (room : List ℕ) (held : t.counts.rows_held ≤ row_places s.slots room) where
  pub size_of_image : length (image_of s t room) ≡ dump_bytes s.slots s.depth
  unfolding image_of window_of held_rows dump_bytes
  size_of_image =
      image_long s.slots s.depth (words_of t) (window_of s t room)
      (window_short s.slots s.depth t.counts.rows_held room
      (records_fit (length room) (row_words s.slots) (omega arith) t.counts.rows_held held))

  at_least_a_header : 256 ≤ length (image_of s t room)
  unfolding dump_bytes
  at_least_a_header = omega (arith, size_of_image)

  -- THE CUT: of a dump into an unmarked area, with n bytes of its order written, a restore is refused with 19 where n is below the size, whatever row room
  -- it is lent, as long as 10 and 12 do not come first; and at the size the area holds the whole image. The area may be longer than the image: a
  -- restore is lent its first bytes.
  pub cut : (area : List ℕ) → dump_bytes s.slots s.depth ≤ length area → Unmarked area → (n : ℕ)
      → let size = dump_bytes s.slots s.depth in
      let found = take size (written (image_of s t room) area 0 n) in
      (n < size → (rows : List ℕ) → judged (room_lines s rows) ≡ Ok tt → judged (setting_lines s) ≡ Ok tt → restore_judged s found rows ≡ Err Refusal.Image)
      × (size ≤ n → found ≡ image_of s t room)
  cut area fits other n =
      let size = dump_bytes s.slots s.depth in
      let image = image_of s t room in
      let after = written image area 0 n in
      let long = size_of_image in (
        λ l rows ten twelve.
            unmarked_refused s (take size after) rows ten twelve
            (λ e. other (sym (mark_stays image area at_least_a_header n (omega (arith, long)))
            ∙ sym (get_or-take size after 2 0 (omega (arith, long, at_least_a_header))) ∙ e)),
        λ l. rw (← long) (all_written image area at_least_a_header (omega (arith, long)) n (omega (arith, long))),
      )
