-- The last block of a list, and one block more.
use Rattle.std.proofs.Common.{◌≡◌, ℕ, zero, suc, ◌+◌, ◌-◌, ◌<◌, List, [], ◌∷◌, ◌++◌, Option, None, Some, arith, sym, ap, subst, length, slice_get}
use Rattle.std.proofs.lemmas.List.{length-append}
use Rattle.std.proofs.lemmas.List.Elements.{All-push}
use Rattle.pci_spec.specs.Text.{Block, IsBlock, IsDump}
use Rattle.pci_spec.specs.Stops.{IsAboveLast, last_slot}
use Rattle.pci_spec.proofs.Fronts.{rising_more}

-- the block, or none, as a list
abbrev one_of : Option Block → List Block
one_of None = []
one_of (Some b) = b ∷ []

-- the slot of the block at the last place
last_by_place : (blocks : List Block) (k : ℕ) (b : Block) → k + 1 ≡ length blocks → Some b ≡ slice_get blocks k → Some b.slot ≡ last_slot blocks
last_by_place [] k b e h = absurd (let no : ⊥ = omega (arith, e) in no)
last_by_place (a ∷ []) zero b e h = ap (λ (o : Option Block). last_slot (one_of o)) h
last_by_place (a ∷ []) (suc k) b e h = absurd (let no : ⊥ = omega (arith, e) in no)
last_by_place (a ∷ c ∷ blocks) zero b e h = absurd (let no : ⊥ = omega (arith, e) in no)
last_by_place (a ∷ c ∷ blocks) (suc k) b e h = last_by_place (c ∷ blocks) k b (omega (arith, e)) h

pub last_by_get : (blocks : List Block) (b : Block) → 0 < length blocks → Some b ≡ slice_get blocks (length blocks - 1) → Some b.slot ≡ last_slot blocks
last_by_get blocks b some h = last_by_place blocks (length blocks - 1) b (omega (arith, some)) h

-- a dump with a block more, above its last
pub dump_more : (blocks new : List Block) (b : Block) → IsDump blocks → IsBlock b → IsAboveLast (last_slot blocks) b.slot → length blocks < 4096 → new ≡ blocks ++ b ∷ [] → IsDump new
dump_more blocks new b d one above few e =
    let long = length-append blocks (b ∷ []) in
    let more : IsDump (blocks ++ b ∷ []) =
    record { each = All-push IsBlock blocks b d.each one; rising = rising_more blocks b d.rising above; room = omega (arith, long, few) } in
    subst IsDump (sym e) more
