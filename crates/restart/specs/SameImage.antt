-- Boxes that are alike have the same image, and what an image needs goes over from one to the other.
use Rattle.std.specs.Prelude.{ℕ, ◌≡◌, refl, List}
use Rattle.words.specs.Prelude.{sym, ap, ◌∙◌}
use Rattle.records.specs.{declared.settings.Settings.Settings, declared.state.State.State, Lent.Rooms, StateWords.words_of}
use Rattle.engine.specs.{Boxes.Alike, Whole.Account, Whole.account_of, Whole.state_of_account}
use Rattle.runs.specs.{Laws.AccountStep.same_parts}
use Rattle.images.specs.{Layout.numbers, Layout.amounts, Layout.head, Layout.image, Layout.window_of, Layout.image_of}
use Rattle.restart.specs.{Laws.SameFloats.floats_alike, Boxes.FitsImage, Boxes.Storable}

-- ---- the image

-- of a state an image has its account: neither the count of its rows nor those of its books
of_account : (K D : ℕ) (t : State) (W : List ℕ) → image K D (words_of t) W ≡ image K D (words_of (state_of_account (account_of t))) W
unfolding image head numbers amounts words_of
of_account K D t W = refl

module _ (s : Settings) (t : State) (m : Rooms) (t' : State) (m' : Rooms) (alike : Alike s t m t' m') where
  same_window : window_of s t m.rows ≡ window_of s t' m'.rows
  unfolding window_of
  same_window = alike.window

  -- BOXES THAT ARE ALIKE have the same image.
  pub same_image : image_of s t m.rows ≡ image_of s t' m'.rows
  unfolding image_of
  same_image =
      of_account s.slots s.depth t (window_of s t m.rows)
      ∙ ap (λ (a : Account). image s.slots s.depth (words_of (state_of_account a)) (window_of s t m.rows)) alike.account
      ∙ sym (of_account s.slots s.depth t' (window_of s t m.rows))
      ∙ ap (λ (W : List ℕ). image s.slots s.depth (words_of t') W) same_window

-- ---- what an image needs

small_alike : (t t' : State) → account_of t ≡ account_of t' → FitsImage t → FitsImage t'
small_alike t t' same h =
    let p = same_parts t t' same in
    record {
      seen = rw (← p.seen) h.seen;
      entry = rw (← p.position) h.entry;
      delay = rw (← p.order) h.delay;
      entry_time = rw (← p.position) h.entry_time;
      last_time = rw (← p.last) h.last_time;
      floats = floats_alike t t' p.position p.last p.order h.floats;
    }

pub kept_alike : (s : Settings) (t : State) (m : Rooms) (t' : State) (m' : Rooms) → Alike s t m t' m' → Storable s t m → Storable s t' m'
kept_alike s t m t' m' alike kept = record {
  slots = kept.slots;
  depth = kept.depth;
  small = small_alike t t' alike.account kept.small;
  words = rw (← (same_window s t m t' m' alike)) kept.words;
}
