-- A case each.
use Rattle.engine.proofs.terms.slippage_anew.Goals as goal

pub returns-in-FixedBps : goal.returns-in-FixedBps
returns-in-FixedBps c = simp c.in-FixedBps.is

pub returns-in-VolumeImpact : goal.returns-in-VolumeImpact
returns-in-VolumeImpact c = simp c.in-VolumeImpact.is
