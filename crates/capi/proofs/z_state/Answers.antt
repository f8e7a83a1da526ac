use Rattle.capi.proofs.z_state.Goals as goal

pub returns : goal.returns
returns c = cc
