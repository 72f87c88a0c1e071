use Rattle.words.specs.Prelude.{sym, ◌∙◌, ◌<◌, ◌+◌, arith}
use Rattle.table.specs.{Header.root}
use Rattle.table.specs.{Passes.WordsFrom, Passes.weight}
use Rattle.table.proofs.{Listing.listing_start, Listing.listing_yes, Listing.listing_no, Listing.spans, Listing.listing_end}
use Rattle.table.proofs.{Listing.listing_puts}
use Rattle.table.proofs.silent.list_tree.Goals as goal
use Rattle.table.proofs.silent.list_tree.Goals.{then-is_silent, else-is_silent}

pub weigh_tree-far-requires : goal.weigh_tree-far-requires
weigh_tree-far-requires c =
    let whole = c.requires.whole_tree in
    let b = c.root-b.ensures.0 in
    let e = c.root-e.ensures.0 in record { b_le_e = (omega (arith, b, e, spans c.args.t.now c.args.x), omega (arith, e, whole.small)); linked = rw (b, e) whole.links }

pub loop-i-init : goal.loop-i-init
loop-i-init c =
    rw c.root-b.ensures.0
    (listing_start _ _ _ _ _ _ (omega (arith, spans c.args.t.now c.args.x)) c.requires.at_bound)

-- a silent test goes into the list, any other node does not
pub loop-i-preserved : goal.loop-i-preserved
unfolding WordsFrom weight
loop-i-preserved c =
    let b = c.root-b.ensures.0 in
    let e = c.root-e.ensures.0 in
    let here : c.loop-i.i < c.root-e.result = omega arith in
    let before : c.loop-i.i < root c.args.t.now (c.args.x + 1) = omega (arith, here, e) in
    elim c.if-is_silent.branch [
      | then-is_silent w ↦
          rw (w.list-is, w.next-is, w.put.ensures)
          (listing_yes _ _ _ _ _ _ _ _ _ c.loop-i.invariant before _
          (rw (← e) (c.weigh_tree-far.ensures _ (omega (arith, c.loop-i.invariant.low, b)) here))
          (sym c.is_silent.ensures ∙ w.if-is_silent.true))
      | else-is_silent w ↦
          rw (w.list-is, w.next-is)
          (listing_no _ _ _ _ _ _ _ _ _ c.loop-i.invariant before _
          (rw (← e) (c.weigh_tree-far.ensures _ (omega (arith, c.loop-i.invariant.low, b)) here))
          (sym c.is_silent.ensures ∙ w.if-is_silent.false))
    ]

pub shape_of-list : goal.shape_of-list
shape_of-list c = omega (arith, c.loop-i.invariant.long)

pub returns : goal.returns
returns c =
    let e = c.root-e.ensures.0 in record { value = listing_end _ _ _ _ _ _ _ _ c.loop-i.invariant (omega (arith, c.loop-i-test.false, e)); list_after = listing_puts _ _ _ _ _ _ _ _ c.loop-i.invariant (omega (arith, c.loop-i-test.false, e)) }
