-- Programs, done and cut: what each byte of an area is then.
use Rattle.std.specs.Prelude.{ℕ, ◌≤◌, ◌<◌, ◌≡◌, refl, Bool, true, false, ◌||◌, List, [], ◌∷◌, eqb, length, get_or, take, set}
use Rattle.words.specs.Prelude.{sym, ap, ◌∙◌, inl, inr, arith, eqb-true, eqb-false}
use Rattle.words.specs.Prelude.{length-set, get_or-set_same, get_or-set_other, ext_get_or, length-take-le, get_or-take}
use Rattle.table.specs.{Bytes.Bytes}
use Rattle.restart.specs.{Plans.touches, Plans.covers, Plans.programmed, Plans.all_programmed, Plans.CutIn, Plans.in_order, Plans.RestRight}

-- of two tests, neither holds
pub neither : (a b : Bool) → (a || b) ≡ false → (a ≡ false) × (b ≡ false)
neither true b h = absurd (let z : ◌≡◌ {A = ℕ} 0 1 = cc in omega arith)
neither false b h = (refl, h)

-- an area that has the bytes at all of their places holds them as its first
pub starts_with : (bytes area : List ℕ) → length bytes ≤ length area → ((i : ℕ) → i < length bytes → get_or area i 0 ≡ get_or bytes i 0)
    → take (length bytes) area ≡ bytes
starts_with bytes area fits same =
    let n = length bytes in
    let long : length (take n area) ≡ n = length-take-le n area fits in
    ext_get_or 0 (take n area) bytes long (λ i l. let k : i < n = omega (arith, long) in get_or-take n area i 0 k ∙ same i k)

-- ---- a program that is done

module _ (bytes : List ℕ) where
  pub programmed_long : (program area : List ℕ) → length (programmed bytes program area) ≡ length area
  unfolding programmed
  programmed_long [] area = refl
  programmed_long (p ∷ ps) area = programmed_long ps (set area p (get_or bytes p 0)) ∙ simp length-set

  -- a byte that it does not touch
  pub programmed_else : (program area : List ℕ) (i : ℕ) → touches program i ≡ false → get_or (programmed bytes program area) i 0 ≡ get_or area i 0
  unfolding programmed touches
  programmed_else [] area i h = refl
  programmed_else (p ∷ ps) area i h =
      let n = neither (eqb p i) (touches ps i) h in
      programmed_else ps (set area p (get_or bytes p 0)) i n.1 ∙ get_or-set_other area p i (get_or bytes p 0) 0 (λ e. eqb-false p i n.0 (sym e))

  set_is : (area : List ℕ) (p i : ℕ) → i < length area → (eqb p i ≡ false → get_or area i 0 ≡ get_or bytes i 0)
      → get_or (set area p (get_or bytes p 0)) i 0 ≡ get_or bytes i 0
  set_is area p i l was = go (eqb p i) refl
    where
      go : (b : Bool) → eqb p i ≡ b → get_or (set area p (get_or bytes p 0)) i 0 ≡ get_or bytes i 0
      go true e = let s : p ≡ i = eqb-true p i e in rw s (get_or-set_same area i (get_or bytes i 0) 0 l)
      go false e = get_or-set_other area p i (get_or bytes p 0) 0 (λ s. eqb-false p i e (sym s)) ∙ was e

  -- a byte that it touches, or that was right
  pub programmed_is : (program area : List ℕ) (i : ℕ) → i < length area → (touches program i ≡ false → get_or area i 0 ≡ get_or bytes i 0)
      → get_or (programmed bytes program area) i 0 ≡ get_or bytes i 0
  unfolding programmed touches
  programmed_is [] area i l was = was refl
  programmed_is (p ∷ ps) area i l was =
      programmed_is ps (set area p (get_or bytes p 0)) i (simp length-set l)
      (λ off. set_is area p i l (λ e. was (rw (e, off))))

  -- ---- programs that are cut

  -- the area stays as long as it was
  pub cut_long : (programs : List (List ℕ)) (area after : List ℕ) → CutIn bytes programs area after → length after ≡ length area
  unfolding CutIn
  cut_long [] area after same = ap length same
  cut_long (program ∷ programs) area after (inl torn) = torn.long
  cut_long (program ∷ programs) area after (inr on) = cut_long programs (programmed bytes program area) after on ∙ programmed_long program area

  -- a byte that none of them touches is as it was
  pub cut_rest : (programs : List (List ℕ)) (area after : List ℕ) (i : ℕ) → covers programs i ≡ false → CutIn bytes programs area after
      → get_or after i 0 ≡ get_or area i 0
  unfolding CutIn covers
  cut_rest [] area after i c same = ap (λ (x : List ℕ). get_or x i 0) same
  cut_rest (program ∷ programs) area after i c (inl torn) = torn.else i (neither (touches program i) (covers programs i) c).0
  cut_rest (program ∷ programs) area after i c (inr on) =
      let n = neither (touches program i) (covers programs i) c in
      cut_rest programs (programmed bytes program area) after i n.1 on ∙ programmed_else program area i n.0

  -- programs that are done are cut nowhere
  pub done_is_cut : (programs : List (List ℕ)) (area : List ℕ) → CutIn bytes programs area (all_programmed bytes programs area)
  unfolding CutIn all_programmed
  done_is_cut [] area = refl
  done_is_cut (program ∷ programs) area = inr (done_is_cut programs (programmed bytes program area))

-- What a plan leaves, by where it is cut.
pub data Left (bytes area : List ℕ) (before : List (List ℕ)) (last after : List ℕ) : Type 0 where
  -- before the last program: what the programs before it do not touch is as it was
  early : ((i : ℕ) → covers before i ≡ false → get_or after i 0 ≡ get_or area i 0) → Left bytes area before last after
  -- in the last program: what it does not touch is right
  late : Bytes after → ((i : ℕ) → i < length bytes → touches last i ≡ false → get_or after i 0 ≡ get_or bytes i 0) → Left bytes area before last after
  -- nowhere: all is right
  done : ((i : ℕ) → i < length bytes → get_or after i 0 ≡ get_or bytes i 0) → Left bytes area before last after

module _ (bytes last : List ℕ) where
  -- one program more before the others
  left_more : (program area : List ℕ) (before : List (List ℕ)) (after : List ℕ) → Left bytes (programmed bytes program area) before last after
      → Left bytes area (program ∷ before) last after
  unfolding covers
  left_more program area before after (early same) =
      early (λ i c. let n = neither (touches program i) (covers before i) c in same i n.1 ∙ programmed_else bytes program area i n.0)
  left_more program area before after (late small right) = late small right
  left_more program area before after (done right) = done right

  -- A PLAN THAT IS CUT, anywhere or nowhere, leaves one of the three.
  pub cut_leaves : (before : List (List ℕ)) (area after : List ℕ) → length bytes ≤ length area → RestRight bytes area before last
      → CutIn bytes (in_order before last) area after → Left bytes area before last after
  unfolding CutIn covers
  cut_leaves [] area after fits rest (inl torn) = late torn.bytes (λ i l n. torn.else i n ∙ rest i l refl n)
  cut_leaves [] area after fits rest (inr same) =
      done (λ i l. ap (λ (x : List ℕ). get_or x i 0) same ∙ programmed_is bytes last area i (omega arith) (λ n. rest i l refl n))
  cut_leaves (program ∷ before) area after fits rest (inl torn) =
      early (λ i c. torn.else i (neither (touches program i) (covers before i) c).0)
  cut_leaves (program ∷ before) area after fits rest (inr on) =
      left_more program area before after
      (cut_leaves before (programmed bytes program area) after (omega (arith, programmed_long bytes program area))
      (λ i l c n. programmed_is bytes program area i (omega arith) (λ off. rest i l (rw (off, c)) n)) on)

  done_right : (before : List (List ℕ)) (area : List ℕ) → length bytes ≤ length area → RestRight bytes area before last
      → (i : ℕ) → i < length bytes → get_or (all_programmed bytes (in_order before last) area) i 0 ≡ get_or bytes i 0
  unfolding all_programmed covers
  done_right [] area fits rest i l = programmed_is bytes last area i (omega arith) (λ n. rest i l refl n)
  done_right (program ∷ before) area fits rest i l =
      done_right before (programmed bytes program area) (omega (arith, programmed_long bytes program area))
      (λ i l c n. programmed_is bytes program area i (omega arith) (λ off. rest i l (rw (off, c)) n)) i l

  -- A PLAN THAT IS DONE leaves the bytes, whatever the area held.
  pub plan_done : (before : List (List ℕ)) (area : List ℕ) → length bytes ≤ length area → RestRight bytes area before last
      → take (length bytes) (all_programmed bytes (in_order before last) area) ≡ bytes
  plan_done before area fits rest =
      let programs = in_order before last in
      let long = cut_long bytes programs area (all_programmed bytes programs area) (done_is_cut bytes programs area) in
      starts_with bytes (all_programmed bytes programs area) (omega (arith, long)) (done_right before area fits rest)
