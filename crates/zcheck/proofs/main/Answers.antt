use Rattle.zcheck.proofs.Reports.{prints_within, prints_taken}
use Rattle.zcheck.proofs.main.Goals as goal

pub slice_bounds-out-end : goal.slice_bounds-out-end
slice_bounds-out-end c = prints_within c.report-m.ensures

pub slice_bounds-write_all-end : goal.slice_bounds-write_all-end
slice_bounds-write_all-end c = prints_taken c.report-m.ensures
