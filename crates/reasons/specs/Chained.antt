-- "no other chain is given": the request's sentences as a relation between a condition and its lines, which the chain alone meets. A line is true of
-- its condition (Telling): nothing here speaks of how lines are made. At any bar up to the newest.
use Rattle.std.specs.Prelude.{ℕ, ◌+◌, ◌≤◌, ◌≡◌, refl, Bool, true, false, not, cond, ◌&&◌, ◌||◌, List, [], ◌∷◌}
use Rattle.words.specs.Prelude.{sym, ap, ◌∙◌, Bool·beq, arith}
use Rattle.rows.specs.{History.History}
use Rattle.table.specs.{Trees.Condition, Trees.Conditions, Trees.compare, Trees.cross, Trees.between, Trees.trend, Trees.every, Trees.any, Trees.negated}
use Rattle.table.specs.{Trees.in_position, Trees.bars_since, Trees.none, Trees.more, Writing.nodes_of}
use Rattle.rules.specs.{declared.position.PositionState.PositionState, Meaning.newest, Meaning.holds, Meaning.all_hold, Meaning.any_holds}
use Rattle.chain.specs.{Missing.in_table, Chain.ChainLine, Chain.line_at, Chain.chain, Chain.first_with}
use Rattle.reasons.specs.{Telling.LineOf, Truth.line_only, Truth.line_true}

module _ (h : History) (s : PositionState) (bar : ℕ) where
  -- "the first child with that answer": of the conditions in a row, the first at node j, condition d at node k gives it, and none before
  pub data FirstChild (answer : Bool) : Conditions → ℕ → Condition → ℕ → Type 0 where
    this : (c : Condition) (cs : Conditions) (j : ℕ) → holds h s c bar ≡ answer → FirstChild answer (more c cs) j c j
    later : (c : Condition) (cs : Conditions) (j : ℕ) (d : Condition) (k : ℕ) → holds h s c bar ≡ not answer → FirstChild answer cs (j + nodes_of c) d k
        → FirstChild answer (more c cs) j d k

  -- "For an All that is no, or an Any that is yes, go to the first child with that answer." "Not goes to its child."
  pub data GoesTo : Condition → ℕ → Condition → ℕ → Type 0 where
    of_all : (cs : Conditions) (i : ℕ) (d : Condition) (k : ℕ) → FirstChild false cs (i + 1) d k → GoesTo (every cs) i d k
    of_any : (cs : Conditions) (i : ℕ) (d : Condition) (k : ℕ) → FirstChild true cs (i + 1) d k → GoesTo (any cs) i d k
    of_not : (c : Condition) (i : ℕ) → GoesTo (negated c) i c (i + 1)

  -- "For an All that is yes or an Any that is no, stop there": so does every condition that joins no others
  unfoldable pub StopsAt : Condition → Type 0
  StopsAt (every cs) = all_hold h s cs bar ≡ true
  StopsAt (any cs) = any_holds h s cs bar ≡ false
  StopsAt (negated c) = ⊥
  StopsAt (compare kind a b) = Unit
  StopsAt (cross kind a b) = Unit
  StopsAt (between x low high) = Unit
  StopsAt (trend kind a n) = Unit
  StopsAt (in_position wanted) = Unit
  StopsAt (bars_since selector k) = Unit

  -- Lines that explain the condition at node i: one of its own, and where it goes to a child, lines that explain the child.
  pub data Explains : Condition → ℕ → List ChainLine → Type 0 where
    last : (c : Condition) (i : ℕ) (l : ChainLine) → LineOf h s bar c i l → StopsAt c → Explains c i (l ∷ [])
    next : (c : Condition) (i : ℕ) (d : Condition) (k : ℕ) (l : ChainLine) (ls : List ChainLine) → LineOf h s bar c i l → GoesTo c i d k → Explains d k ls
        → Explains c i (l ∷ ls)

  -- ---- there is one list of lines that explains, and it is the chain

  beq_same : (b : Bool) → Bool·beq b b ≡ true
  beq_same true = refl
  beq_same false = refl

  beq_other : (b : Bool) → Bool·beq (not b) b ≡ false
  beq_other true = refl
  beq_other false = refl

  first_is : {answer : Bool} {cs : Conditions} {j : ℕ} {d : Condition} {k : ℕ} → FirstChild answer cs j d k
      → first_with in_table h s answer cs j bar ≡ chain in_table h s d k bar
  unfolding first_with
  first_is {answer} (this c cs j e) = rw (e, beq_same answer)
  first_is {answer} (later c cs j d k e f) = rw (e, beq_other answer) (first_is f)

  goes_is : {c : Condition} {i : ℕ} {d : Condition} {k : ℕ} → GoesTo c i d k
      → chain in_table h s c i bar ≡ line_at in_table h s c i bar ∷ chain in_table h s d k bar
  unfolding chain
  goes_is (of_all cs i d k f) = rw (first_is f)
  goes_is (of_any cs i d k f) = rw (first_is f)
  goes_is (of_not c i) = refl

  -- where All is yes no child says no; where Any is no none says yes
  none_no : (cs : Conditions) (j : ℕ) → all_hold h s cs bar ≡ true → first_with in_table h s false cs j bar ≡ []
  unfolding all_hold first_with
  none_no none j e = refl
  none_no (more c cs) j e = go (none_no cs (j + nodes_of c)) (holds h s c bar) e
    where
      go : (all_hold h s cs bar ≡ true → first_with in_table h s false cs (j + nodes_of c) bar ≡ []) → (b : Bool) → b && all_hold h s cs bar ≡ true
          → cond (Bool·beq b false) (chain in_table h s c j bar) (first_with in_table h s false cs (j + nodes_of c) bar) ≡ []
      go rest true f = rest f
      go rest false f = absurd (let z : ◌≡◌ {A = ℕ} 0 1 = cc in omega arith)

  none_yes : (cs : Conditions) (j : ℕ) → any_holds h s cs bar ≡ false → first_with in_table h s true cs j bar ≡ []
  unfolding any_holds first_with
  none_yes none j e = refl
  none_yes (more c cs) j e = go (none_yes cs (j + nodes_of c)) (holds h s c bar) e
    where
      go : (any_holds h s cs bar ≡ false → first_with in_table h s true cs (j + nodes_of c) bar ≡ []) → (b : Bool) → b || any_holds h s cs bar ≡ false
          → cond (Bool·beq b true) (chain in_table h s c j bar) (first_with in_table h s true cs (j + nodes_of c) bar) ≡ []
      go rest true f = absurd (let z : ◌≡◌ {A = ℕ} 0 1 = cc in omega arith)
      go rest false f = rest f

  stops_is : (c : Condition) (i : ℕ) → StopsAt c → chain in_table h s c i bar ≡ line_at in_table h s c i bar ∷ []
  unfolding chain StopsAt
  stops_is (every cs) i e = rw (none_no cs (i + 1) e)
  stops_is (any cs) i e = rw (none_yes cs (i + 1) e)
  stops_is (negated c) i e = absurd e
  stops_is (compare kind a b) i e = refl
  stops_is (cross kind a b) i e = refl
  stops_is (between x low high) i e = refl
  stops_is (trend kind a n) i e = refl
  stops_is (in_position wanted) i e = refl
  stops_is (bars_since selector k) i e = refl

  -- NO OTHER CHAIN: lines that explain a condition are its chain.
  pub only_chain : bar ≤ newest h → {c : Condition} {i : ℕ} {ls : List ChainLine} → Explains c i ls → ls ≡ chain in_table h s c i bar
  only_chain now (last c i l o e) = ap (λ (x : ChainLine). x ∷ []) (line_only h bar now s c i l o) ∙ sym (stops_is c i e)
  only_chain now (next c i d k l ls o g e) =
      ap (λ (x : ChainLine). x ∷ ls) (line_only h bar now s c i l o)
      ∙ ap (λ (xs : List ChainLine). line_at in_table h s c i bar ∷ xs) (only_chain now e) ∙ sym (goes_is g)

  -- ---- and the chain does explain

  module _ (now : bar ≤ newest h) where
    own : (c : Condition) (i : ℕ) → LineOf h s bar c i (line_at in_table h s c i bar)
    own = line_true h bar now s

    unfoldable AllSay : Bool → Conditions → Type 0
    AllSay b none = Unit
    AllSay b (more c cs) = (holds h s c bar ≡ b) × AllSay b cs

    -- the lines of the first child with an answer, or none where every child gives the other
    data Search (answer : Bool) : Conditions → ℕ → List ChainLine → Type 0 where
      nowhere : (cs : Conditions) (j : ℕ) → AllSay (not answer) cs → Search answer cs j []
      found : (cs : Conditions) (j : ℕ) (d : Condition) (k : ℕ) (ls : List ChainLine) → FirstChild answer cs j d k → Explains d k ls → Search answer cs j ls

    -- one child more in front
    passed : (answer : Bool) (c : Condition) (j : ℕ) {cs : Conditions} {ls : List ChainLine} → holds h s c bar ≡ not answer
        → Search answer cs (j + nodes_of c) ls → Search answer (more c cs) j ls
    unfolding AllSay
    passed answer c j e (nowhere cs k a) = nowhere (more c cs) j (e, a)
    passed answer c j e (found cs k d m ls f x) = found (more c cs) j d m ls (later c cs j d m e f) x

    in_front : (answer b : Bool) (c : Condition) (cs : Conditions) (j : ℕ) (own rest : List ChainLine) → holds h s c bar ≡ b → Explains c j own
        → Search answer cs (j + nodes_of c) rest → Search answer (more c cs) j (cond (Bool·beq b answer) own rest)
    in_front true true c cs j own rest e x q = found (more c cs) j c j own (this c cs j e) x
    in_front true false c cs j own rest e x q = passed true c j e q
    in_front false true c cs j own rest e x q = passed false c j e q
    in_front false false c cs j own rest e x q = found (more c cs) j c j own (this c cs j e) x

    all_yes : (cs : Conditions) → AllSay true cs → all_hold h s cs bar ≡ true
    unfolding AllSay all_hold
    all_yes none a = refl
    all_yes (more c cs) a = rw (a.0, all_yes cs a.1)

    any_no : (cs : Conditions) → AllSay false cs → any_holds h s cs bar ≡ false
    unfolding AllSay any_holds
    any_no none a = refl
    any_no (more c cs) a = rw (a.0, any_no cs a.1)

    all_explained : (i : ℕ) {cs : Conditions} {ls : List ChainLine} → Search false cs (i + 1) ls
        → Explains (every cs) i (line_at in_table h s (every cs) i bar ∷ ls)
    unfolding StopsAt
    all_explained i (nowhere cs j a) = last (every cs) i _ (own (every cs) i) (all_yes cs a)
    all_explained i (found cs j d k ls f x) = next (every cs) i d k _ ls (own (every cs) i) (of_all cs i d k f) x

    any_explained : (i : ℕ) {cs : Conditions} {ls : List ChainLine} → Search true cs (i + 1) ls → Explains (any cs) i (line_at in_table h s (any cs) i bar ∷ ls)
    unfolding StopsAt
    any_explained i (nowhere cs j a) = last (any cs) i _ (own (any cs) i) (any_no cs a)
    any_explained i (found cs j d k ls f x) = next (any cs) i d k _ ls (own (any cs) i) (of_any cs i d k f) x

    mutual
      unfolding chain StopsAt AllSay

      -- THE CHAIN EXPLAINS: its first line is the condition's own, each next line is the child's that the request's sentences go to, and it
      -- stops where they say.
      pub chain_explains : (c : Condition) (i : ℕ) → Explains c i (chain in_table h s c i bar)
      chain_explains (compare kind a b) i = last (compare kind a b) i _ (own (compare kind a b) i) tt
      chain_explains (cross kind a b) i = last (cross kind a b) i _ (own (cross kind a b) i) tt
      chain_explains (between x low high) i = last (between x low high) i _ (own (between x low high) i) tt
      chain_explains (trend kind a n) i = last (trend kind a n) i _ (own (trend kind a n) i) tt
      chain_explains (every cs) i = all_explained i (search_explains false cs (i + 1))
      chain_explains (any cs) i = any_explained i (search_explains true cs (i + 1))
      chain_explains (negated c) i = next (negated c) i c (i + 1) _ _ (own (negated c) i) (of_not c i) (chain_explains c (i + 1))
      chain_explains (in_position wanted) i = last (in_position wanted) i _ (own (in_position wanted) i) tt
      chain_explains (bars_since selector k) i = last (bars_since selector k) i _ (own (bars_since selector k) i) tt

      search_explains : (answer : Bool) (cs : Conditions) (j : ℕ) → Search answer cs j (first_with in_table h s answer cs j bar)
      search_explains answer none j = nowhere none j tt
      search_explains answer (more c cs) j =
          in_front answer (holds h s c bar) c cs j _ _ refl (chain_explains c j) (search_explains answer cs (j + nodes_of c))
