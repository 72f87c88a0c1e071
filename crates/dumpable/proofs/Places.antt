-- Whether bytes have a place for an image, by division.
use Rattle.words.specs.Prelude.{ℕ, ◌+◌, ◌-◌, ◌*◌, ◌/◌, ◌≤◌, ◌<◌, ◌≡◌, refl, sym, ap, ◌∙◌, Bool, true, false, zero-mul, mul_comm, mul_assoc, mul-le-mul_right}
use Rattle.words.specs.Prelude.{lt_of_not-le, le-div_iff_mul-le, arith, le-leb, lt-leb, leb-true, leb-false, leb}
use Rattle.images.specs.{Layout.dump_bytes}

module _ (K D bytes : ℕ) where
  pub too_short : bytes < 256 → leb (dump_bytes K D) bytes ≡ false
  unfolding dump_bytes
  too_short h = lt-leb (256 + D * (8 * (7 + K))) bytes (omega arith)

  pub no_rows : 256 ≤ bytes → D ≡ 0 → leb (dump_bytes K D) bytes ≡ true
  unfolding dump_bytes
  no_rows h z = le-leb (256 + D * (8 * (7 + K))) bytes (rw (z, zero-mul (8 * (7 + K))) h)

  -- D rows, in words
  body_words : D * (8 * (7 + K)) ≡ 8 * (D * (7 + K))
  body_words = sym (mul_assoc D 8 (7 + K)) ∙ ap (λ (m : ℕ). m * (7 + K)) (mul_comm D 8) ∙ mul_assoc 8 D (7 + K)

  pub too_wide : 256 ≤ bytes → (D ≡ 0 → ⊥) → (bytes - 256) / 8 < K → leb (dump_bytes K D) bytes ≡ false
  unfolding dump_bytes
  too_wide h some wide =
      let one : 1 ≤ D = omega arith in
      let least : 1 * (7 + K) ≤ D * (7 + K) = mul-le-mul_right (7 + K) one in
      lt-leb (256 + D * (8 * (7 + K))) bytes (rw body_words (omega arith))

  pub rows_place : 256 ≤ bytes → leb D ((bytes - 256) / 8 / (7 + K)) ≡ leb (dump_bytes K D) bytes
  unfolding dump_bytes
  rows_place h = go (leb D ((bytes - 256) / 8 / (7 + K))) refl
    where
      go : (b : Bool) → leb D ((bytes - 256) / 8 / (7 + K)) ≡ b → b ≡ leb (dump_bytes K D) bytes
      go true e =
          let fit : D * (7 + K) ≤ (bytes - 256) / 8 = (le-div_iff_mul-le {k = 7 + K} (omega arith)).0 (leb-true _ _ e) in
          sym (le-leb (256 + D * (8 * (7 + K))) bytes (rw body_words (omega arith)))
      go false e =
          let over : (bytes - 256) / 8 / (7 + K) < D = leb-false _ _ e in
          let not-fit : D * (7 + K) ≤ (bytes - 256) / 8 → ⊥ = λ f.
          let g : D ≤ (bytes - 256) / 8 / (7 + K) = (le-div_iff_mul-le {k = 7 + K} (omega arith)).1 f in omega arith in
          let more : (bytes - 256) / 8 < D * (7 + K) = lt_of_not-le not-fit in
          sym (lt-leb (256 + D * (8 * (7 + K))) bytes (rw body_words (omega arith)))
