-- A case each.
use Rattle.engine.proofs.terms.sizing_anew.Goals as goal

pub returns-in-FixedFraction : goal.returns-in-FixedFraction
returns-in-FixedFraction c = simp c.in-FixedFraction.is

pub returns-in-FixedQty : goal.returns-in-FixedQty
returns-in-FixedQty c = simp c.in-FixedQty.is

pub returns-in-FixedCash : goal.returns-in-FixedCash
returns-in-FixedCash c = simp c.in-FixedCash.is

pub returns-in-VolTarget : goal.returns-in-VolTarget
returns-in-VolTarget c = simp c.in-VolTarget.is

pub returns-in-RiskPerTrade : goal.returns-in-RiskPerTrade
returns-in-RiskPerTrade c = simp c.in-RiskPerTrade.is
