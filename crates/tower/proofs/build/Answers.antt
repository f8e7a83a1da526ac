use native.Mathlib.Omega.{arith}
use Rattle.tower.proofs.Building.{form_plain, ready_start, levels_start}
use Rattle.tower.proofs.build.Goals as goal

pub former-requires : goal.former-requires
former-requires c = let P = c.requires in form_plain _ _ _ _ (record { d = c.args.d.now; ready = ready_start _ _ P.size; cells = omega arith; words = omega arith }) P.plain

pub loop-i-init : goal.loop-i-init
loop-i-init c = levels_start _ _ _ c.requires.size c.former.ensures
