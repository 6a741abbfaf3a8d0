-- What an access of a true log shows, and what one access more makes of what was written.
use Rattle.std.proofs.Common.{◌≡◌, ℕ, zero, suc, ◌+◌, ◌/◌, ◌%◌, ◌==◌, ◌&&◌, ◌||◌, Bool, List, [], ◌∷◌, true, false, cond, Option, Some, None, is_some, refl, sym, ap, subst, ◌∙◌, arith}
use Rattle.std.specs.List.{slice_get}
use Rattle.std.proofs.lemmas.Bool.{eqb-true}
use Rattle.pci_number.specs.Access.{IsByteRead, IsByteWritten}
use Rattle.pci_number.specs.Board.{Board}
use Rattle.pci_spec.specs.Slot.{Slot}
use Rattle.pci_number.specs.Logs.{TrueLog, AreTrueFrom, IsAccessTrueOf, accesses_then, board_then, boards_stood, is_a_write, is_same, is_write, last_made, last_then, slot_of_access, stood_then, write_of_access, writes_made, writes_then}
use Rattle.pci_number.specs.Stops.{number_write}
use Rattle.pci_number.specs.declared.access.Access.{Access}

true_from : (boards : ℕ → Board) (n : ℕ) (log : List Access) → AreTrueFrom boards n log → (k : ℕ) (a : Access) → slice_get log k ≡ Some a
    → IsAccessTrueOf (boards (n + k)) a (boards (suc (n + k)))
true_from boards n [] are k a e = absurd (let no : ⊥ = cc in no)
true_from boards n (b ∷ log) are zero a e =
    subst (λ m. IsAccessTrueOf (boards m) a (boards (suc m))) (let same : n ≡ n + 0 = omega arith in same)
    (subst (λ x. IsAccessTrueOf (boards n) x (boards (suc n))) (let same : b ≡ a = cc in same) are.0)
true_from boards n (b ∷ log) are (suc k) a e =
    subst (λ m. IsAccessTrueOf (boards m) a (boards (suc m))) (let same : suc n + k ≡ n + suc k = omega arith in same) (true_from boards (suc n) log are.1 k a e)

true_at : (world : TrueLog) (k : ℕ) (a : Access) → slice_get world.log k ≡ Some a → IsAccessTrueOf (world.boards k) a (world.boards (suc k))
true_at world k a e = subst (λ m. IsAccessTrueOf (world.boards m) a (world.boards (suc m))) (let same : 0 + k ≡ k = omega arith in same) (true_from world.boards 0 world.log world.are_true k a e)

-- ---- the access at a place of the log

-- the log of a port is that of its world, and has this access there
pub stands : (world : TrueLog) (log : List Access) (k : ℕ) (here : Option Access) (a : Access) → log ≡ world.log → here ≡ slice_get log k → here ≡ Some a
    → slice_get world.log k ≡ Some a
stands world log k here a same there is = ap (λ l. slice_get l k) (sym same) ∙ sym there ∙ is

pub record IsRead (a : Access) (s : Slot) (offset : ℕ) : Type 0 where
  pub slot : slot_of_access a ≡ s
  pub byte : a.offset ≡ offset
  pub kind : a.kind ≡ 0

pub record IsWritten (a : Access) (s : Slot) (offset value : ℕ) : Type 0 where
  pub slot : slot_of_access a ≡ s
  pub byte : a.offset ≡ offset
  pub kind : a.kind ≡ 1
  pub number : a.value ≡ value

-- ---- an access of a log that is the one that is wanted

both : (b c : Bool) → (b && c) ≡ true → (b ≡ true) × (c ≡ true)
both true c e = (refl, e)
both false c e = absurd (let no : ⊥ = cc in no)

five : (b c d e f : Bool) → (b && (c && (d && (e && f)))) ≡ true → (b ≡ true) × (c ≡ true) × (d ≡ true) × (e ≡ true) × (f ≡ true)
five b c d e f h =
    let one = both b (c && (d && (e && f))) h in
    let two = both c (d && (e && f)) one.1 in
    let three = both d (e && f) two.1 in
    let four = both e f three.1 in
    (one.0, two.0, three.0, four.0, four.1)

one_value : (kind value other : ℕ) → kind ≡ 1 → (kind == 0 || value == other) ≡ true → value ≡ other
one_value kind value other one e = eqb-true value other (rw (sym (ap (λ k. (k == 0 || value == other)) one)) e)

module _ (a wanted : Access) (same : is_same a wanted ≡ true) where
  parts : (a.bus == wanted.bus ≡ true) × (a.place == wanted.place ≡ true) × (a.offset == wanted.offset ≡ true) × (a.kind == wanted.kind ≡ true)
      × ((wanted.kind == 0 || a.value == wanted.value) ≡ true)
  parts =
      five (a.bus == wanted.bus) (a.place == wanted.place) (a.offset == wanted.offset) (a.kind == wanted.kind)
      (wanted.kind == 0 || a.value == wanted.value) same

  at_bus : a.bus ≡ wanted.bus
  at_bus = eqb-true a.bus wanted.bus parts.0

  at_place : a.place ≡ wanted.place
  at_place = eqb-true a.place wanted.place parts.1

  at_offset : a.offset ≡ wanted.offset
  at_offset = eqb-true a.offset wanted.offset parts.2

  of_kind : a.kind ≡ wanted.kind
  of_kind = eqb-true a.kind wanted.kind parts.3

  of_value : (wanted.kind == 0 || a.value == wanted.value) ≡ true
  of_value = parts.4

  at_slot : (s : Slot) → slot_of_access wanted ≡ s → slot_of_access a ≡ s
  at_slot s is = ap (λ (n : ℕ). let made : Slot = record { bus = n; device = a.place / 8; function = a.place % 8 } in made) at_bus
      ∙ ap (λ (n : ℕ). let made : Slot = record { bus = wanted.bus; device = n / 8; function = n % 8 } in made) at_place ∙ is

  pub read_again : (s : Slot) (offset : ℕ) → slot_of_access wanted ≡ s → wanted.offset ≡ offset → wanted.kind ≡ 0 → IsRead a s offset
  read_again s offset slot byte kind = record { slot = at_slot s slot; byte = at_offset ∙ byte; kind = of_kind ∙ kind }

  pub written_again : (s : Slot) (offset value : ℕ) → slot_of_access wanted ≡ s → wanted.offset ≡ offset → wanted.kind ≡ 1 → wanted.value ≡ value
      → IsWritten a s offset value
  written_again s offset value slot byte kind number =
      record { slot = at_slot s slot; byte = at_offset ∙ byte; kind = of_kind ∙ kind; number = one_value wanted.kind a.value wanted.value kind of_value ∙ number }

no_write : (a : Access) → a.kind ≡ 0 → is_write a ≡ false
no_write a e = rw e refl

one_write : (a : Access) → a.kind ≡ 1 → is_write a ≡ true
one_write a e = rw e refl

module _ (world : TrueLog) (k : ℕ) (a : Access) (there : slice_get world.log k ≡ Some a) where
  is_next : suc k ≡ k + 1
  is_next = omega arith

  -- ---- a read

  module _ (s : Slot) (offset : ℕ) (is : IsRead a s offset) where
    pub byte_read : IsByteRead (world.boards k) s offset a.value
    byte_read =
        subst (λ x. IsByteRead (world.boards k) x offset a.value) is.slot
        (subst (λ n. IsByteRead (world.boards k) (slot_of_access a) n a.value) is.byte ((true_at world k a there).shown (no_write a is.kind)))

    pub board_stays : world.boards (k + 1) ≡ world.boards k
    board_stays = ap world.boards (sym is_next) ∙ (true_at world k a there).same (no_write a is.kind)

    reads_here : is_a_write (slice_get world.log k) ≡ false
    reads_here = ap is_a_write there ∙ no_write a is.kind

    pub none_stood : boards_stood world (k + 1) ≡ boards_stood world k
    none_stood = ap (boards_stood world) (sym is_next) ∙ ap (λ b. cond b (world.boards (suc k) ∷ boards_stood world k) (boards_stood world k)) reads_here

    pub none_last : last_made world.log (k + 1) ≡ last_made world.log k
    none_last = ap (last_made world.log) (sym is_next) ∙ ap (λ b. cond b (write_of_access (slice_get world.log k)) (last_made world.log k)) reads_here

    pub none_made : writes_made world.log (k + 1) ≡ writes_made world.log k
    none_made = ap (writes_made world.log) (sym is_next) ∙ ap (λ b. cond b (writes_made world.log k + 1) (writes_made world.log k)) reads_here

  -- ---- a write

  module _ (s : Slot) (offset value : ℕ) (is : IsWritten a s offset value) where
    pub byte_written : IsByteWritten (world.boards k) s offset (world.boards (k + 1))
    byte_written =
        subst (λ m. IsByteWritten (world.boards k) s offset (world.boards m)) is_next
        (subst (λ x. IsByteWritten (world.boards k) x offset (world.boards (suc k))) is.slot
        (subst (λ n. IsByteWritten (world.boards k) (slot_of_access a) n (world.boards (suc k))) is.byte ((true_at world k a there).written (one_write a is.kind))))

    is_one : is_a_write (slice_get world.log k) ≡ true
    is_one = ap is_a_write there ∙ one_write a is.kind

    pub one_stood : boards_stood world (k + 1) ≡ world.boards (k + 1) ∷ boards_stood world k
    one_stood =
        ap (boards_stood world) (sym is_next) ∙ ap (λ b. cond b (world.boards (suc k) ∷ boards_stood world k) (boards_stood world k)) is_one
        ∙ ap (λ m. world.boards m ∷ boards_stood world k) is_next

    pub one_last : last_made world.log (k + 1) ≡ Some (number_write s offset value)
    one_last =
        ap (last_made world.log) (sym is_next) ∙ ap (λ b. cond b (write_of_access (slice_get world.log k)) (last_made world.log k)) is_one ∙ ap write_of_access there
        ∙ ap (λ (x : Slot). Some (number_write x a.offset a.value)) is.slot ∙ ap (λ n. Some (number_write s n a.value)) is.byte ∙ ap (λ n. Some (number_write s offset n)) is.number

    pub one_made : writes_made world.log (k + 1) ≡ writes_made world.log k + 1
    one_made = ap (writes_made world.log) (sym is_next) ∙ ap (λ b. cond b (writes_made world.log k + 1) (writes_made world.log k)) is_one

-- ---- as long as no access is wanted

pub none_left : (next : Option Access) → is_some next ≡ false → next ≡ None
none_left None e = refl
none_left (Some a) e = absurd (let no : ⊥ = cc in no)

module _ (world : TrueLog) (k : ℕ) (next : Option Access) (none : next ≡ None) where
  pub then_board : board_then world k next ≡ world.boards k
  then_board = ap (λ n. board_then world k n) none

  pub then_stood : stood_then world k next ≡ boards_stood world k
  then_stood = ap (λ n. stood_then world k n) none

  pub then_last : last_then world.log k next ≡ last_made world.log k
  then_last = ap (λ n. last_then world.log k n) none

  pub then_made : writes_then world.log k next ≡ writes_made world.log k
  then_made = ap (λ n. writes_then world.log k n) none

  pub then_accessed : accesses_then k next ≡ k
  then_accessed = ap (λ n. accesses_then k n) none
