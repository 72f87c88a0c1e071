-- What a fine shape says of an image's first bytes: the mark and the version.
use Rattle.std.specs.Prelude.{ℕ, ◌≡◌, true, List, leb, eqb, length, get_or}
use Rattle.words.specs.Prelude.{eqb-true}
use Rattle.words.specs.{Limits.most_slots, Limits.most_rows}
use Rattle.refusals.specs.{Laws.Lines.and_true}
use Rattle.images.specs.{Layout.head_bytes, Layout.dump_bytes, Reading.slots_in, Reading.version_in, Reading.depth_in, Refused.shape_fine}

pub record Marked (x : List ℕ) : Type 0 where
  pub m₀ : get_or x 0 0 ≡ 87
  pub m₁ : get_or x 1 0 ≡ 68
  pub m₂ : get_or x 2 0 ≡ 80
  pub version : version_in x ≡ 1

pub shape_marked : (x : List ℕ) → shape_fine x ≡ true → Marked x
unfolding shape_fine
shape_marked x h =
    let a = (and_true _ (eqb (length x) (dump_bytes (slots_in x) (depth_in x))) h).0 in
    let b = (and_true _ (leb (slots_in x) most_slots) a).0 in
    let c = (and_true _ (leb (depth_in x) most_rows) b).0 in
    let d = (and_true _ (leb 1 (depth_in x)) c).0 in
    let v = and_true _ (eqb (version_in x) 1) d in
    let p₂ = and_true _ (eqb (get_or x 2 0) 80) v.0 in
    let p₁ = and_true _ (eqb (get_or x 1 0) 68) p₂.0 in
    let p₀ = and_true (leb head_bytes (length x)) (eqb (get_or x 0 0) 87) p₁.0 in
    record { m₀ = eqb-true _ _ p₀.1; m₁ = eqb-true _ _ p₁.1; m₂ = eqb-true _ _ p₂.1; version = eqb-true _ _ v.1 }
