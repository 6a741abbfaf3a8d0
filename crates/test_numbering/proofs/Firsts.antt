-- The first node that answers, by the node at the front of a bus.
use Rattle.std.proofs.Common.{◌≡◌, ℕ, List, [], ◌∷◌, ◌++◌, Bool, true, false, ◌&&◌, refl, sym, ◌∙◌, ap, subst, set, Some, None, map}
use Rattle.std.specs.Bool.{◌==◌, if◌then◌else◌}
use Rattle.pci_spec.specs.Slot.{Slot}
use Rattle.pci_spec.specs.Number.{byte_at}
use Rattle.pci_spec.specs.Header.{secondary_bus}
use Rattle.pci_number.specs.Board.{Nodes, Node, NodePlace, Behind, Next, is_type_1, passes_on, on_bus, behind_bridges}
use Rattle.test_numbering.specs.Tree.{first_byte, IsPutFirst}

-- the nodes behind a bridge that answer
abbrev pub beyond : List ℕ → Nodes → Slot → List NodePlace
beyond image behind access =
    if is_type_1 image && secondary_bus image == access.bus then on_bus behind access
    else if is_type_1 image && passes_on image access.bus then behind_bridges behind access else []

module _ (image : List ℕ) (behind : Nodes) (access : Slot) (bus : ℕ) (same : bus ≡ access.bus) (leads : Bool) (leads_is : leads ≡ (is_type_1 image && secondary_bus image == bus)) where
  pub beyond_leads : leads ≡ true → beyond image behind access ≡ on_bus behind access
  beyond_leads is = let test : (is_type_1 image && secondary_bus image == access.bus) ≡ true = ap (λ b. is_type_1 image && secondary_bus image == b) (sym same) ∙ sym leads_is ∙ is in rw test refl

  module _ (passes : Bool) (passes_is : passes ≡ (is_type_1 image && passes_on image bus)) (not : leads ≡ false) where
    leads_not : (is_type_1 image && secondary_bus image == access.bus) ≡ false
    leads_not = ap (λ b. is_type_1 image && secondary_bus image == b) (sym same) ∙ sym leads_is ∙ not

    passes_to : passes ≡ (is_type_1 image && passes_on image access.bus)
    passes_to = passes_is ∙ ap (λ b. is_type_1 image && passes_on image b) same

    pub beyond_passes : passes ≡ true → beyond image behind access ≡ behind_bridges behind access
    beyond_passes is = rw leads_not (rw (sym passes_to ∙ is) refl)

    pub beyond_ends : passes ≡ false → beyond image behind access ≡ []
    beyond_ends is = rw leads_not (rw (sym passes_to ∙ is) refl)

module _ (d f : ℕ) (image : List ℕ) (behind others : Nodes) where
  abbrev node : Nodes
  node = Node d f image behind others

  first_next : (places : List NodePlace) (offset : ℕ) → first_byte node (map Next places) offset ≡ first_byte others places offset
  first_next [] offset = refl
  first_next (place ∷ places) offset = refl

  put_next : (places : List NodePlace) (offset : ℕ) (done : Bool) (after : Nodes) → IsPutFirst others places offset done after → IsPutFirst node (map Next places) offset done (Node d f image behind after)
  put_next [] offset done after put = (put.0, ap (λ n. Node d f image behind n) put.1)
  put_next (place ∷ places) offset done after put = (put.0, put.1, ap (λ n. Node d f image behind n) put.2)

  put_inside : (place : NodePlace) (places rest : List NodePlace) (offset : ℕ) (done : Bool) (after : Nodes) → IsPutFirst behind (place ∷ places) offset done after → IsPutFirst node (map Behind (place ∷ places) ++ rest) offset done (Node d f image after others)
  put_inside place places rest offset done after put = (put.0, put.1, ap (λ n. Node d f image n others) put.2)

  module _ (access : Slot) (offset : ℕ) where
    pub byte_hit : (d == access.device && f == access.function) ≡ true → first_byte node (on_bus node access) offset ≡ Some (byte_at image offset)
    byte_hit hit = rw hit refl

    pub byte_miss : (d == access.device && f == access.function) ≡ false → first_byte node (on_bus node access) offset ≡ first_byte others (on_bus others access) offset
    byte_miss miss = rw miss (first_next (on_bus others access) offset)

    pub put_hit : (kept : ℕ) → (d == access.device && f == access.function) ≡ true → IsPutFirst node (on_bus node access) offset true (Node d f (set image offset kept) behind others)
    put_hit kept hit = rw hit (refl, kept, refl)

    pub put_miss : (done : Bool) (after : Nodes) → (d == access.device && f == access.function) ≡ false → IsPutFirst others (on_bus others access) offset done after → IsPutFirst node (on_bus node access) offset done (Node d f image behind after)
    put_miss done after miss put = rw miss (put_next (on_bus others access) offset done after put)

    found_of : (xs : List NodePlace) (b : ℕ) → first_byte behind xs offset ≡ Some b → first_byte node (map Behind xs ++ map Next (behind_bridges others access)) offset ≡ Some b
    found_of [] b found = cc found
    found_of (x ∷ xs) b found = found

    pub byte_found : (b : ℕ) → first_byte behind (beyond image behind access) offset ≡ Some b → first_byte node (behind_bridges node access) offset ≡ Some b
    byte_found b found = found_of (beyond image behind access) b found

    none_of : (xs : List NodePlace) → first_byte behind xs offset ≡ None → first_byte node (map Behind xs ++ map Next (behind_bridges others access)) offset ≡ first_byte others (behind_bridges others access) offset
    none_of [] none = first_next (behind_bridges others access) offset
    none_of (x ∷ xs) none = cc none

    pub byte_none : first_byte behind (beyond image behind access) offset ≡ None → first_byte node (behind_bridges node access) offset ≡ first_byte others (behind_bridges others access) offset
    byte_none none = none_of (beyond image behind access) none

    put_found_of : (xs : List NodePlace) (done : Bool) (after : Nodes) → done ≡ true → IsPutFirst behind xs offset done after → IsPutFirst node (map Behind xs ++ map Next (behind_bridges others access)) offset true (Node d f image after others)
    put_found_of [] done after is put = cc (put.0, is)
    put_found_of (x ∷ xs) done after is put = let p = put_inside x xs (map Next (behind_bridges others access)) offset done after put in (refl, p.1, p.2)

    pub put_found : (done : Bool) (after : Nodes) → done ≡ true → IsPutFirst behind (beyond image behind access) offset done after → IsPutFirst node (behind_bridges node access) offset true (Node d f image after others)
    put_found done after is put = put_found_of (beyond image behind access) done after is put

    put_none_of : (xs : List NodePlace) (done more : Bool) (same after : Nodes) → done ≡ false → IsPutFirst behind xs offset done same → IsPutFirst others (behind_bridges others access) offset more after → IsPutFirst node (map Behind xs ++ map Next (behind_bridges others access)) offset more (Node d f image same after)
    put_none_of [] done more same after is put rest = subst (λ n. IsPutFirst node (map Next (behind_bridges others access)) offset more (Node d f image n after)) (sym put.1) (put_next (behind_bridges others access) offset more after rest)
    put_none_of (x ∷ xs) done more same after is put rest = cc (put.0, is)

    pub put_none : (done more : Bool) (same after : Nodes) → done ≡ false → IsPutFirst behind (beyond image behind access) offset done same → IsPutFirst others (behind_bridges others access) offset more after → IsPutFirst node (behind_bridges node access) offset more (Node d f image same after)
    put_none done more same after is put rest = put_none_of (beyond image behind access) done more same after is put rest
