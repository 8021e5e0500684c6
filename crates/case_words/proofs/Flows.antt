-- Pieces that become longer and may flow still.
use Rattle.std.proofs.Common.{◌≤◌, ℕ, max, arith}
use Rattle.cd_elem.specs.Limits.{piece_limit}
use Rattle.cd_elem.specs.declared.kind.Kind.{Kind}
use Rattle.cd_elem.specs.declared.kind.Kind.TheVariants.{Bytes, Chars, Blocks, Texts}
use Rattle.cd_step.specs.Parts.{bound_at}
use Rattle.cd_pieces.specs.Carried.{widened}

-- the bound of pieces of this length is in its limit where the length is
pub widened_flows : (k : Kind) (m : ℕ) → m ≤ piece_limit → bound_at (widened k m) ≤ piece_limit
widened_flows Bytes m le = omega arith
widened_flows Chars m le = omega arith
widened_flows (Blocks n) m le = le
widened_flows (Texts n) m le = le

pub larger_flows : (k : Kind) (m n : ℕ) → m ≤ piece_limit → n ≤ piece_limit → bound_at (widened k (max m n)) ≤ piece_limit
larger_flows k m n le lf = widened_flows k (max m n) (omega arith)
