-- Sixteen bits, as a comparison of sixteen bytes leaves them.
use Rattle.std.specs.Prelude.{ℕ, ◌==◌, if◌then◌else◌}
use Rattle.std.specs.Int.{w64, trailing_zeros}

-- the place of the lowest of sixteen bits that is set, or 16
abbrev pub lowest_of_16 : ℕ → ℕ
lowest_of_16 bits = if bits == 0 then 16 else trailing_zeros w64 bits
