use Rattle.std.proofs.Common.{◌≡◌, ◌≤◌, ◌+◌, length}
use Rattle.fx_pam.specs.Header.{lines_of, header_of, no_numbers}
use Rattle.fx_pam.proofs.header.read_header.Given as goal

-- the header from here on, with the numbers so far, is the whole header
abbrev pub invariant-loop-end : goal.invariant-loop-end
invariant-loop-end l = record {
  same_header : header_of l.line l.so_far (lines_of l.rest) ≡ header_of 2 no_numbers (lines_of l.bytes);
  few_lines : l.line + length l.rest ≤ length l.bytes + 2;
}

abbrev pub decreases-loop-end : goal.decreases-loop-end
decreases-loop-end l = length l.rest
