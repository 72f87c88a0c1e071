-- From what was counted, by the law of each way out.
use Rattle.words.specs.Prelude.{refl, ℕ, ◌*◌, ◌/◌, ◌^◌, ◌<◌, ◌≤◌, min, ◌≡◌, sym, ◌∙◌, arith}
use Rattle.differences.proofs.{Comparing.Counted, Comparing.refuses, Comparing.lines_fit, Comparing.all_fit, Comparing.nothing, Comparing.writes}
use Rattle.differences.proofs.compare.compare_whole.Goals as goal

-- what both lists have, each has
both_trades : (n x y : ℕ) → n ≡ min (x / 10) (y / 10) → (10 * n ≤ x) × (10 * n ≤ y)
both_trades n x y e = (omega arith, omega arith)

both_points : (n x y : ℕ) → n ≡ min (x / 2) (y / 2) → (2 * n ≤ x) × (2 * n ≤ y)
both_points n x y e = (omega arith, omega arith)

small : (x r : ℕ) → 5 * x ≤ r → r < 2 ^ 64 → x < 2 ^ 64
small x r h l = omega arith

pub first_point-k-requires : goal.first_point-k-requires
first_point-k-requires c = both_points _ _ _ c.min-points.ensures

pub count-words-requires : goal.count-words-requires
count-words-requires c = both_trades _ _ _ c.min-n.ensures

pub overflow_add-many : goal.overflow_add-many
overflow_add-many c =
    let counted : let a = c.args in
    Counted a.equity.now a.trades.now a.other_equity.now a.other_trades.now c.min-points.result c.min-n.result
    c.first_point-k.result c.count_few-few.result c.count-words.result = record {
      shared = c.min-points.ensures;
      short = c.min-n.ensures;
      first = c.first_point-k.ensures;
      other = c.count_few-few.ensures.0;
      apart = c.count-words.ensures;
    } in
    let room = lines_fit counted c.args.lines.now (sym c.holds.ensures ∙ c.if-holds.true) in
    record { fits = small _ _ room c.well_formed.1.1.1.1.0.0 }

pub returns-then-many-eq0 : goal.returns-then-many-eq0
returns-then-many-eq0 c =
    let counted : let a = c.args in
    Counted a.equity.now a.trades.now a.other_equity.now a.other_trades.now c.min-points.result c.min-n.result
    c.first_point-k.result c.count_few-few.result c.count-words.result = record {
      shared = c.min-points.ensures;
      short = c.min-n.ensures;
      first = c.first_point-k.ensures;
      other = c.count_few-few.ensures.0;
      apart = c.count-words.ensures;
    } in
    nothing counted _ (sym c.holds.ensures ∙ c.if-holds.true) c.if-many-eq0.true

pub put_all-requires : goal.put_all-requires
put_all-requires c =
    let counted : let a = c.args in
    Counted a.equity.now a.trades.now a.other_equity.now a.other_trades.now c.min-points.result c.min-n.result
    c.first_point-k.result c.count_few-few.result c.count-words.result = record {
      shared = c.min-points.ensures;
      short = c.min-n.ensures;
      first = c.first_point-k.ensures;
      other = c.count_few-few.ensures.0;
      apart = c.count-words.ensures;
    } in
    let room = c.args.lines.now in
    let p = both_points _ _ _ c.min-points.ensures in
    let q = both_trades _ _ _ c.min-n.ensures in
    (p.0, p.1, q.0, q.1, all_fit counted room (sym c.holds.ensures ∙ c.if-holds.true))

pub returns-then-holds : goal.returns-then-holds
returns-then-holds c =
    let counted : let a = c.args in
    Counted a.equity.now a.trades.now a.other_equity.now a.other_trades.now c.min-points.result c.min-n.result
    c.first_point-k.result c.count_few-few.result c.count-words.result = record {
      shared = c.min-points.ensures;
      short = c.min-n.ensures;
      first = c.first_point-k.ensures;
      other = c.count_few-few.ensures.0;
      apart = c.count-words.ensures;
    } in
    writes counted _ (sym c.holds.ensures ∙ c.if-holds.true) _ c.put_all.ensures

pub returns : goal.returns
returns c =
    let counted : let a = c.args in
    Counted a.equity.now a.trades.now a.other_equity.now a.other_trades.now c.min-points.result c.min-n.result
    c.first_point-k.result c.count_few-few.result c.count-words.result = record {
      shared = c.min-points.ensures;
      short = c.min-n.ensures;
      first = c.first_point-k.ensures;
      other = c.count_few-few.ensures.0;
      apart = c.count-words.ensures;
    } in
    refuses counted _ (sym c.holds.ensures ∙ c.if-holds.false) _ refl
