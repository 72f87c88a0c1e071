-- What a header that breaks no rule says.
-- Assumes nothing.
use Rattle.std.specs.Prelude.{◌≡◌, refl, Bool, true, false, not, cond, ◌&&◌, List, ℕ, ◌+◌, ◌*◌, ◌≤◌, length, ltb, leb, eqb, Option, Some, None}
use Rattle.words.specs.Prelude.{sym, arith, ltb-false, leb-true}
use Rattle.words.specs.Prelude.{eqb-true, not-true}
use Rattle.words.specs.{Limits.most_slots, Limits.most_nodes, declared.refusal.Refusal.Refusal}
use Rattle.table.specs.{Header.slots, Header.version, Header.total, Header.count, Header.mark_right, Header.version_right, Header.counts_right}
use Rattle.table.specs.{Header.header_refusal}

true-false : false ≡ true → ⊥
true-false h = let z : ◌≡◌ {A = ℕ} 0 1 = cc in omega arith

pub and_parts : (a b : Bool) → (a && b) ≡ true → (a ≡ true) × (b ≡ true)
and_parts true b h = (refl, h)
and_parts false b h = absurd (true-false h)

refused_not : (r : Refusal) (x : Option Refusal) (b : Bool) → cond b (Some r) x ≡ None → (b ≡ false) × (x ≡ None)
refused_not r x true h = absurd (let z : ◌≡◌ {A = ℕ} 0 1 = cc in omega arith)
refused_not r x false h = (refl, h)

not-not : (b : Bool) → not b ≡ false → b ≡ true
not-not true h = refl
not-not false h = absurd (true-false (sym h))

pub record HeaderRight (newest : ℕ) (t : List ℕ) : Type 0 where
  pub mark : mark_right t ≡ true
  pub some_version : 1 ≤ version t
  pub known_version : version t ≤ newest
  pub few_slots : slots t ≤ most_slots
  pub least : 2 ≤ total t
  pub most : total t ≤ most_nodes
  pub has_entry : 1 ≤ count t 0
  pub has_exit : 1 ≤ count t 1
  pub sums : count t 0 + count t 1 + count t 2 + count t 3 ≡ total t
  pub long : length t ≡ 16 + 16 * total t

pub header_right : (newest : ℕ) (t : List ℕ) → header_refusal newest t ≡ None → HeaderRight newest t
unfolding header_refusal version_right counts_right
header_right newest t h =
    let h1 = refused_not Refusal.Size _ (ltb (length t) 16) h in
    let h2 = refused_not Refusal.Mark _ (not (mark_right t)) h1.1 in
    let h3 = refused_not Refusal.Version _ (not (version_right newest t)) h2.1 in
    let h4 = refused_not Refusal.Counts _ (not (counts_right t)) h3.1 in
    let h5 = refused_not Refusal.Length _ (not (eqb (length t) (16 + 16 * total t))) h4.1 in
    let v = and_parts (leb 1 (version t)) (leb (version t) newest) (not-not _ h3.0) in
    let c5 = and_parts _ (eqb (count t 0 + count t 1 + count t 2 + count t 3) (total t)) (not-not _ h4.0) in
    let c4 = and_parts _ (not (ltb (count t 1) 1)) c5.0 in
    let c3 = and_parts _ (not (ltb (count t 0) 1)) c4.0 in
    let c2 = and_parts _ (not (ltb most_nodes (total t))) c3.0 in
    let c1 = and_parts (not (ltb most_slots (slots t))) (not (ltb (total t) 2)) c2.0 in
    record {
      mark = not-not _ h2.0;
      some_version = leb-true _ _ v.0;
      known_version = leb-true _ _ v.1;
      few_slots = ltb-false most_slots (slots t) (not-true _ c1.0);
      least = ltb-false (total t) 2 (not-true _ c1.1);
      most = ltb-false most_nodes (total t) (not-true _ c2.1);
      has_entry = ltb-false (count t 0) 1 (not-true _ c3.1);
      has_exit = ltb-false (count t 1) 1 (not-true _ c4.1);
      sums = eqb-true _ _ c5.1;
      long = eqb-true _ _ (not-not _ h5.0);
    }
