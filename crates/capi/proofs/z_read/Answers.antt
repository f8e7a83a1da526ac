use Rattle.capi.proofs.z_read.Goals as goal

pub returns : goal.returns
returns c = cc
