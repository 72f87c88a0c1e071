-- A close is taken exactly where both rooms have a place for it and it is finite. Assumes nothing.
use Rattle.std.specs.Prelude.{ℕ, ◌+◌, ◌*◌, ◌/◌, ◌<◌, ◌≤◌, ◌≡◌, refl, Bool, true, false, cond, ◌&&◌, List, ltb, Float, length, Err, Ok, Result}
use Rattle.words.specs.Prelude.{is_nan}
use Rattle.words.specs.Prelude.{sym, ap, ◌∙◌, false≢true, arith, ltb-true, leb-true}
use Rattle.words.specs.Prelude.{lt-ltb, le-leb, nan, inf, fin}
use Rattle.words.specs.{Limits.most_count, declared.refusal.Refusal.Refusal}
use Rattle.floats.specs.{Floats.float_of, Floats.finite}
use Rattle.blocks.specs.{Reading.Number}
use Rattle.blocks.specs.{Blocks.block_bars, Blocks.block_words, Append.Append, Append.appended, Append.kept, Append.unchanged, Append.place_for_block}

-- what an append that is not refused has
pub record Appendable (held close : ℕ) (closes blocks : List ℕ) : Type 0 where
  pub room : held < length closes
  pub count : held < most_count
  pub place : block_words * (held / block_bars) + block_words ≤ length blocks
  pub number : finite (float_of close) ≡ true

not_held : {A : Type 0} {r : Refusal} {n : ℕ} → Err r ≡ Ok n → A
not_held e = absurd (let z : ◌≡◌ {A = ℕ} 0 1 = cc in omega arith)

-- the tests, one by one
all_pass : (p q r s : Bool) (k : Append) (a b c : Refusal) (closes blocks : List ℕ) {n : ℕ}
    → (cond (p && q) (cond r (cond s k (unchanged (Err a) closes blocks)) (unchanged (Err b) closes blocks)) (unchanged (Err c) closes blocks)
    ).answer ≡ Ok n
    → (p ≡ true) × (q ≡ true) × (r ≡ true) × (s ≡ true)
all_pass true true true true k a b c closes blocks e = (refl, refl, refl, refl)
all_pass true true true false k a b c closes blocks e = not_held e
all_pass true true false s k a b c closes blocks e = not_held e
all_pass true false r s k a b c closes blocks e = not_held e
all_pass false q r s k a b c closes blocks e = not_held e

module _ (held close : ℕ) (closes blocks : List ℕ) where
  pub appended_has : {n : ℕ} → (appended held close closes blocks).answer ≡ Ok n → Appendable held close closes blocks
  unfolding appended
  appended_has e =
      let t = all_pass (ltb held (length closes)) (ltb held most_count) (place_for_block held blocks) (finite (float_of close)) (kept held close closes blocks)
      _ _ _ closes blocks e in
      record {
        room = ltb-true held (length closes) t.0;
        count = ltb-true held most_count t.1;
        place = leb-true _ (length blocks) t.2;
        number = t.3;
      }

  -- and such a close is taken
  pub is_taken : Appendable held close closes blocks → appended held close closes blocks ≡ kept held close closes blocks
  unfolding appended
  is_taken t = simp (lt-ltb _ _ t.room, lt-ltb _ _ t.count, le-leb _ _ t.place, t.number)

-- what is finite is a number
finite_is : (x : Float) → finite x ≡ true → is_nan x ≡ false
unfolding is_nan
finite_is nan h = absurd (false≢true h)
finite_is (inf s) h = absurd (false≢true h)
finite_is (fin s m d) h = refl

pub finite_number : (w : ℕ) → finite (float_of w) ≡ true → Number w
finite_number w e = finite_is (float_of w) e

-- what is refused keeps both rooms
not_refused : {A : Type 0} {r : Refusal} {n : ℕ} → Ok n ≡ Err r → A
not_refused e = absurd (let z : ◌≡◌ {A = ℕ} 0 1 = cc in omega arith)

keeps : (p q r s : Bool) (k : Append) (n : ℕ) → k.answer ≡ Ok n → (a b c why : Refusal) (closes blocks : List ℕ) →
    (let all = cond (p && q) (cond r (cond s k (unchanged (Err a) closes blocks)) (unchanged (Err b) closes blocks))
    (unchanged (Err c) closes blocks) in
    all.answer ≡ Err why → all ≡ unchanged (Err why) closes blocks)
keeps true true true true k n t a b c why closes blocks e = not_refused (sym t ∙ e)
keeps true true true false k n t a b c why closes blocks e = ap (λ (x : Result ℕ Refusal). unchanged x closes blocks) e
keeps true true false s k n t a b c why closes blocks e = ap (λ (x : Result ℕ Refusal). unchanged x closes blocks) e
keeps true false r s k n t a b c why closes blocks e = ap (λ (x : Result ℕ Refusal). unchanged x closes blocks) e
keeps false q r s k n t a b c why closes blocks e = ap (λ (x : Result ℕ Refusal). unchanged x closes blocks) e

pub refusal_keeps : (held close : ℕ) (closes blocks : List ℕ) (why : Refusal) → (appended held close closes blocks).answer ≡ Err why
    → appended held close closes blocks ≡ unchanged (Err why) closes blocks
unfolding appended
refusal_keeps held close closes blocks why e =
    keeps (ltb held (length closes)) (ltb held most_count) (place_for_block held blocks) (finite (float_of close)) (kept held close closes blocks) (held + 1) refl
    _ _ _ why closes blocks e
