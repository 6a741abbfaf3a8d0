-- The node at the first place of what is seen of a bus answers there, and no other does.
use Rattle.std.proofs.Common.{◌≡◌, ℕ, ◌+◌, ◌*◌, ◌<◌, ◌≤◌, List, [], ◌∷◌, Bool, true, false, ◌&&◌, arith, refl, ◌∙◌, ap, map, set}
use Rattle.std.specs.Bool.{◌==◌}
use Rattle.std.proofs.lemmas.Bool.{and_parts, eqb-true, eq-eqb, false_from_ne_true}
use Rattle.pci_spec.specs.Slot.{Slot}
use Rattle.pci_spec.specs.Number.{byte_at}
use Rattle.pci_number.specs.Board.{Nodes, NoMore, Node, Board, Here, on_bus, answers}
use Rattle.pci_number.specs.Access.{IsByteRead, IsByteWritten, image_of, with_byte_of}
use Rattle.pci_number.specs.Walk.{all_after}
use Rattle.pci_number.proofs.Single.{none_before}
use Rattle.pci_number.specs.Seen.{View, code, IsSeen, AreLastNodes}

-- on a bus
alone : (access : Slot) (image : List ℕ) (behind others : Nodes) → all_after access.device access.function others ≡ true → on_bus (Node access.device access.function image behind others) access ≡ Here ∷ []
alone access image behind others after =
    let same : (access.device == access.device) ≡ true = eq-eqb access.device access.device refl in
    let same_function : (access.function == access.function) ≡ true = eq-eqb access.function access.function refl in
    rw (same, same_function, none_before access.device access.function others after access refl refl) refl

pub none_at : (place device : ℕ) (more : Bool) (nodes : Nodes) (access : Slot) → access.function ≤ 7 → code access < place → AreLastNodes place device more nodes → on_bus nodes access ≡ []
none_at place device more NoMore access low before rest = refl
none_at place device more (Node d f image behind others) access low before rest =
    let apart : (d == access.device && f == access.function) ≡ false = false_from_ne_true _ (λ meets.
    let met = and_parts (d == access.device) (f == access.function) meets in
    let at : d ≡ access.device = eqb-true d access.device met.0 in
    let of : f ≡ access.function = eqb-true f access.function met.1 in
    omega (arith, at, of, rest.0, before)) in
    rw (apart, none_at (d * 8 + f + 1) _ _ others access low (omega (arith, rest.0, before)) rest.7) refl

-- on the board
module _ (v : View) (high last : ℕ) (access : Slot) (seen : IsSeen v access.bus (code access) high last) (board : Board) where
  abbrev node : List ℕ → Nodes → Nodes → Nodes
  node image behind others = Node access.device access.function image behind others

  answers_here : (image : List ℕ) (behind others : Nodes) → board ≡ v.fill (node image behind others) → all_after access.device access.function others ≡ true → answers board access ≡ v.at Here ∷ []
  answers_here image behind others is after =
      ap (λ b. answers b access) is ∙ seen.here (node image behind others) access refl (omega arith) ∙ ap (map v.at) (alone access image behind others after)

  pub read_here : (image : List ℕ) (behind others : Nodes) → board ≡ v.fill (node image behind others) → all_after access.device access.function others ≡ true → (offset value : ℕ) → IsByteRead board access offset value → value ≡ byte_at image offset
  read_here image behind others is after offset value read =
      read.byte (v.at Here) (answers_here image behind others is after)
      ∙ ap (λ b. byte_at (image_of b (v.at Here)) offset) is
      ∙ ap (λ i. byte_at i offset) (seen.image (node image behind others) Here)

  pub write_here : (image : List ℕ) (behind others : Nodes) → board ≡ v.fill (node image behind others) → all_after access.device access.function others ≡ true → (offset : ℕ) (written : Board) → IsByteWritten board access offset written → (kept : ℕ) × (written ≡ v.fill (node (set image offset kept) behind others))
  write_here image behind others is after offset written write =
      let w = write.byte (v.at Here) (answers_here image behind others is after) in
      (w.0, w.1 ∙ ap (λ b. with_byte_of b (v.at Here) offset w.0) is ∙ seen.byte (node image behind others) Here offset w.0)

  pub read_nothing : (device : ℕ) (more : Bool) (rest : Nodes) → board ≡ v.fill rest → access.function ≤ 7 → AreLastNodes (code access + 1) device more rest → (offset value : ℕ) → IsByteRead board access offset value → value ≡ 0xff
  read_nothing device more rest is low none offset value read =
      read.nothing (ap (λ b. answers b access) is ∙ seen.here rest access refl (omega arith) ∙ ap (map v.at) (none_at (code access + 1) device more rest access low (omega arith) none))
