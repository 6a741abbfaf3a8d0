-- Boxes of one section overlap upright only where their addresses do.
use Rattle.std.proofs.Common.{◌≡◌, ◌≤◌, ◌<◌, ◌+◌, ℕ, refl, ap, inl, inr, arith}
use Rattle.std.proofs.lemmas.Bool.{cases_lt}
use Rattle.std.proofs.lemmas.List.Elements.{All-contains}
use Rattle.pci_picture.specs.Spots.{first_address, region_last_address, BoxStandsAt, BoxesAreApart}
use Rattle.pci_picture.proofs.Framed.{end_drawn}

not_above : (height_of : ℕ → ℕ) (low high : ℕ) → (low < high → height_of low < height_of high) → low ≤ high → height_of low ≤ height_of high
not_above height_of low high rises le =
    elim (cases_lt low high) [
      | inl less ↦ let up : height_of low < height_of high = rises less in omega (arith, up)
      | inr not_less ↦ let same : low ≡ high = omega (arith, le, not_less) in
          let level : height_of low ≡ height_of high = ap height_of same in omega (arith, level)
    ]

pub boxes_are_apart : BoxesAreApart
boxes_are_apart told_of number spots one other standing here there less =
    let f = standing.height_of in
    let past : ℕ = region_last_address one.line + 1 in
    let first : ℕ = first_address other.line in
    let above : BoxStandsAt f one = All-contains (BoxStandsAt f) spots one standing.stand here in
    let below : BoxStandsAt f other = All-contains (BoxStandsAt f) spots other standing.stand there in
    let ends : one.y + one.height + 1 ≡ f past = above.ends in
    let begins : other.y ≡ f first = below.begins in
    let up : f past ≤ f first =
    not_above f past first (standing.rise past first (end_drawn past spots one here (inr refl)) (end_drawn first spots other there (inl refl))) (omega (arith, less)) in
    omega (arith, ends, begins, up)
