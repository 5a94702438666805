-- The answer names no field of the call, so that another count of bytes is refused at its value.
use Rattle.std.proofs.Common.{arith}
use Rattle.comparing.proofs.print_line.Goals as goal

pub slice_bounds-line-end : goal.slice_bounds-line-end
slice_bounds-line-end c = omega arith
