-- Each input is a text or has a fault.
use Rattle.std.proofs.Common.{◌≡◌, ◌≢◌, ◌⊎◌, ℕ, zero, suc, ◌+◌, ◌*◌, ◌<◌, ◌≤◌, inl, inr, List, [], ◌∷◌, ◌++◌, refl, Option, None, Some, arith, sym, ◌∙◌, ap, subst, length, drop, append_assoc, append-nil}
use Rattle.std.specs.Prelude.{IfSome, IsTrue}
use Rattle.std.specs.List.{All}
use Rattle.std.proofs.lemmas.Bool.{cases_lt, cases_eq, cases_Bool, both_ways}
use Rattle.std.proofs.lemmas.Grind.{flat_map-append}
use Rattle.std.proofs.lemmas.List.{length-append}
use Rattle.std.proofs.lemmas.List.Elements.{All-push, All-cons, All-nil}
use Rattle.pci_spec.specs.Slot.{Slot, IsSlot, slot_number}
use Rattle.pci_spec.specs.Text.{Block, IsBlock, IsDump, IsTitle, is_title_byte, slot_text, title_text, block_text, text_of, IsTextOf, TextFault, BadSlot, BadTitle, BadLine, NoBlank, Order, TooMany, Ended, IsFaultOf, line_ends}
use Rattle.pci_spec.specs.Stops.{IsAboveLast, Stops, EndsIn, InLine, last_slot}
use Rattle.pci_spec.specs.Form.{Cell, Fixed, slot_cells, rows_cells, rest_cells, ends_in, Breaks}
use Rattle.pci_spec.specs.TextLaws.{InputIsTextOrHasFault}
use Rattle.pci_spec.proofs.Spelling.{head_same}
use Rattle.pci_spec.proofs.Forms.{decide_fits, slot_of, made_of}
use Rattle.pci_spec.proofs.Fronts.{rising_more}
use Rattle.pci_spec.proofs.Stopping.{ends_append, with_line, stop_in_slot, stop_at_order, stop_after_slot, stop_in_title, stop_in_rest}
use Rattle.pci_spec.proofs.Faults.{rows_ends, fault_slot, fault_order, fault_title, fault_line, fault_blank, fault_ended, fault_many, ends_in_slot, ends_after_slot, ends_in_title, ends_in_rest}

-- after some whole blocks the bytes have a fault
abbrev pub IsFaulty : List Block → List ℕ → Type 0
IsFaulty blocks bytes = (f : TextFault) × IsFaultOf (text_of blocks ++ bytes) f

-- or they begin with one more block
pub record NextBlock (last : Option Slot) (bytes : List ℕ) : Type 0 where
  pub block : Block
  pub rest : List ℕ
  pub holds : IsBlock block
  pub above : IsAboveLast last block.slot
  pub split : bytes ≡ block_text block ++ rest

faulty : (blocks : List Block) (bytes : List ℕ) (f : TextFault) → IsFaultOf (text_of blocks ++ (bytes ++ [])) f → IsFaulty blocks bytes
faulty blocks bytes f h = (f, subst (λ (t : List ℕ). IsFaultOf (text_of blocks ++ t) f) (append-nil bytes) h)

-- what is known of the bytes after some blocks of a dump that has room for more
record IsRead (blocks : List Block) : Type 0 where
  dump : IsDump blocks
  few : length blocks < 4096

ended : (blocks : List Block) (bytes : List ℕ) → IsRead blocks → EndsIn (last_slot blocks) bytes → IsFaulty blocks bytes
ended blocks bytes r h = (Ended (18 * length blocks + line_ends bytes + 1), fault_ended blocks bytes r.dump r.few h)

-- ---- the lines of a block

last_cell_ends_line : (init a : List Cell) (x : Cell) (b : List Cell) → init ++ Fixed 10 ∷ [] ≡ a ++ x ∷ b → 1 ≤ ends_in (x ∷ b)
last_cell_ends_line [] [] x b e = let n = ap ends_in e in omega (arith, n)
last_cell_ends_line [] (y ∷ a) x b e = let n = ap length e in let l = length-append a (x ∷ b) in absurd (let no : ⊥ = omega (arith, n, l) in no)
last_cell_ends_line (i ∷ init) [] x b e = let n = ap ends_in e in let l = ends_append (i ∷ init) (Fixed 10 ∷ []) in omega (arith, n, l)
last_cell_ends_line (i ∷ init) (y ∷ a) x b e = last_cell_ends_line init a x b (ap (λ (cs : List Cell). drop 1 cs) e)

-- a byte that breaks the lines stands in one of them
lines_before : (bytes : List ℕ) (k : Breaks rest_cells bytes) → ends_in k.done ≤ 16
lines_before bytes k =
    let all = ends_append (rows_cells 0 16) (Fixed 10 ∷ []) in
    let rows = rows_ends 0 16 in
    let both = ap ends_in k.cells_split ∙ ends_append k.done (k.cell ∷ k.todo) in
    let some = last_cell_ends_line (rows_cells 0 16) k.done k.cell k.todo k.cells_split in
    omega (arith, all, rows, both, some)

in_lines : (blocks : List Block) (bytes : List ℕ) (s : Slot) (title : Option (List ℕ)) (t : List ℕ) → IsRead blocks → IsSlot s → IfSome title IsTitle → IsAboveLast (last_slot blocks) s
    → bytes ≡ with_line s title t → NextBlock (last_slot blocks) bytes ⊎ IsFaulty blocks bytes
in_lines blocks bytes s title t r hs ht high e = elim (decide_fits rest_cells t) [
  | inl b ↦
      let m = made_of s title b.text hs ht b.fits in
      let back = sym m.its_slot in
      let lines : title_text title ++ 10 ∷ t ≡ (title_text title ++ 10 ∷ b.text) ++ b.rest =
      ap (λ (x : List ℕ). title_text title ++ 10 ∷ x) b.split ∙ sym (append_assoc (title_text title) (10 ∷ b.text) b.rest) in
      inl record {
        block = m.block;
        rest = b.rest;
        holds = m.holds;
        above = subst (λ (x : Slot). IsAboveLast (last_slot blocks) x) back high;
        split = e ∙ ap (λ (x : List ℕ). slot_text s ++ x) lines ∙ sym (append_assoc (slot_text s) (title_text title ++ 10 ∷ b.text) b.rest) ∙ ap (λ (x : List ℕ). x ++ b.rest) m.text;
      }
  | inr other ↦ inr (elim other [
    | inl l ↦ ended blocks bytes r (ends_in_rest (last_slot blocks) bytes s title t hs ht high e l)
    | inr k ↦
        let stop = stop_in_rest (last_slot blocks) bytes s title t hs ht high e k in
        elim (cases_lt (ends_in k.done) 16) [
          | inl line ↦ faulty blocks bytes (BadLine _) (fault_line blocks bytes [] (1 + ends_in k.done) r.dump r.few (omega arith) (omega (arith, line)) stop)
          | inr last ↦
              let most = lines_before t k in
              let all : 1 + ends_in k.done ≡ 17 = omega (arith, last, most) in
              faulty blocks bytes (NoBlank _) (fault_blank blocks bytes [] r.dump r.few (subst (λ n. Stops (last_slot blocks) bytes (InLine n)) all stop))
        ]
  ])
]

-- ---- the title

-- as many bytes of a title as there are, with room for so many
record Scanned (room : ℕ) (bytes : List ℕ) : Type 0 where
  title : List ℕ
  rest : List ℕ
  split : bytes ≡ title ++ rest
  most : length title ≤ room
  each : All (λ c. IsTrue (is_title_byte c)) title
  full : (c : ℕ) (more : List ℕ) → rest ≡ c ∷ more → IsTrue (is_title_byte c) → length title ≡ room

scan : (room : ℕ) (bytes : List ℕ) → Scanned room bytes
scan room [] = record { title = []; rest = []; split = refl; most = omega arith; each = All-nil _; full = (λ c more e h. let n = ap length e in absurd (omega (arith, n))) }
scan zero (x ∷ bytes) = record { title = []; rest = x ∷ bytes; split = refl; most = omega arith; each = All-nil _; full = (λ c more e h. refl) }
scan (suc room) (x ∷ bytes) = elim (cases_Bool (is_title_byte x)) [
  | inl taken ↦
      let s = scan room bytes in
      record {
        title = x ∷ s.title;
        rest = s.rest;
        split = ap (λ (l : List ℕ). x ∷ l) s.split;
        most = (let m = s.most in omega (arith, m));
        each = All-cons (λ c. IsTrue (is_title_byte c)) x s.title taken s.each;
        full = (λ c more e h. let f = s.full c more e h in omega (arith, f));
      }
  | inr other ↦ record {
    title = [];
    rest = x ∷ bytes;
    split = refl;
    most = omega arith;
    each = All-nil _;
    full = (λ c more e h. absurd (both_ways (is_title_byte c) (ap is_title_byte (sym (head_same x c bytes more e)) ∙ other) h));
  }
]

-- the title's line ends, which it can't before its first byte
at_line_end : (blocks : List Block) (bytes : List ℕ) (s : Slot) (u : List ℕ) (c : ℕ) (more : List ℕ) → IsRead blocks → IsSlot s → IsAboveLast (last_slot blocks) s → length u ≤ 200 → All (λ c. IsTrue (is_title_byte c)) u
    → (IsTrue (is_title_byte c) → length u ≡ 200) → bytes ≡ slot_text s ++ (32 ∷ u ++ c ∷ more) → c ≡ 10 → NextBlock (last_slot blocks) bytes ⊎ IsFaulty blocks bytes
at_line_end blocks bytes s [] c more r hs high most each full e line =
    inr (faulty blocks bytes (BadTitle _) (fault_title blocks bytes [] r.dump r.few (stop_in_title (last_slot blocks) bytes s [] c more hs high most each e (λ z. refl) full)))
at_line_end blocks bytes s (x ∷ u) c more r hs high most each full e line =
    in_lines blocks bytes s (Some (x ∷ u)) more r hs (omega arith, most, each) high (e ∙ ap (λ (n : ℕ). slot_text s ++ (32 ∷ x ∷ u ++ n ∷ more)) line)

after_title : (blocks : List Block) (bytes : List ℕ) (s : Slot) (u rest : List ℕ) → IsRead blocks → IsSlot s → IsAboveLast (last_slot blocks) s → length u ≤ 200 → All (λ c. IsTrue (is_title_byte c)) u
    → ((c : ℕ) (more : List ℕ) → rest ≡ c ∷ more → IsTrue (is_title_byte c) → length u ≡ 200) → bytes ≡ slot_text s ++ (32 ∷ u ++ rest) → NextBlock (last_slot blocks) bytes ⊎ IsFaulty blocks bytes
after_title blocks bytes s u [] r hs high most each full e =
    inr (ended blocks bytes r (ends_in_title (last_slot blocks) bytes s u hs high most each (e ∙ ap (λ (t : List ℕ). slot_text s ++ (32 ∷ t)) (append-nil u))))
after_title blocks bytes s u (c ∷ more) r hs high most each full e = elim (cases_eq c 10) [
  | inl line ↦ at_line_end blocks bytes s u c more r hs high most each (full c more refl) e line
  | inr other ↦ inr (faulty blocks bytes (BadTitle _) (fault_title blocks bytes [] r.dump r.few (stop_in_title (last_slot blocks) bytes s u c more hs high most each e (λ z. absurd (other z)) (full c more refl))))
]

-- ---- the slot

after_slot : (blocks : List Block) (bytes : List ℕ) (s : Slot) (t : List ℕ) → IsRead blocks → IsSlot s → IsAboveLast (last_slot blocks) s → bytes ≡ slot_text s ++ t → NextBlock (last_slot blocks) bytes ⊎ IsFaulty blocks bytes
after_slot blocks bytes s [] r hs high e = inr (ended blocks bytes r (ends_after_slot (last_slot blocks) bytes s hs high (e ∙ append-nil (slot_text s))))
after_slot blocks bytes s (c ∷ more) r hs high e = elim (cases_eq c 10) [
  | inl line ↦ in_lines blocks bytes s None more r hs tt high (e ∙ ap (λ (n : ℕ). slot_text s ++ (n ∷ more)) line)
  | inr no_line ↦ elim (cases_eq c 32) [
    | inl space ↦
        let scanned = scan 200 more in
        after_title blocks bytes s scanned.title scanned.rest r hs high scanned.most scanned.each scanned.full
        (e ∙ ap (λ (n : ℕ). slot_text s ++ (n ∷ more)) space ∙ ap (λ (t : List ℕ). slot_text s ++ (32 ∷ t)) scanned.split)
    | inr no_space ↦ inr (faulty blocks bytes (BadSlot _) (fault_slot blocks bytes [] r.dump r.few (stop_after_slot (last_slot blocks) bytes s c more hs e high no_line no_space)))
  ]
]

decide_above : (last : Option Slot) (s : Slot) → IsAboveLast last s ⊎ (IsAboveLast last s → ⊥)
decide_above None s = inl tt
decide_above (Some l) s = elim (cases_lt (slot_number l) (slot_number s)) [
  | inl above ↦ inl above
  | inr below ↦ inr (λ h. omega (arith, h, below))
]

one_block : (blocks : List Block) (bytes : List ℕ) → IsRead blocks → bytes ≢ [] → NextBlock (last_slot blocks) bytes ⊎ IsFaulty blocks bytes
one_block blocks bytes r some = elim (decide_fits slot_cells bytes) [
  | inl b ↦
      let s = slot_of b.text b.fits in
      let e : bytes ≡ slot_text s.0 ++ b.rest = b.split ∙ ap (λ (t : List ℕ). t ++ b.rest) s.2 in
      elim (decide_above (last_slot blocks) s.0) [
        | inl high ↦ after_slot blocks bytes s.0 b.rest r s.1 high e
        | inr low ↦ inr (faulty blocks bytes (Order _) (fault_order blocks bytes [] r.dump r.few (stop_at_order (last_slot blocks) bytes s.0 b.rest s.1 e low)))
      ]
  | inr other ↦ inr (elim other [
    | inl l ↦ ended blocks bytes r (ends_in_slot (last_slot blocks) bytes l some)
    | inr k ↦ faulty blocks bytes (BadSlot _) (fault_slot blocks bytes [] r.dump r.few (stop_in_slot (last_slot blocks) bytes k))
  ])
]

-- ---- the whole input

abbrev pub IsJudged : List ℕ → Type 0
IsJudged bytes = ((blocks : List Block) × IsTextOf bytes blocks) ⊎ ((f : TextFault) × IsFaultOf bytes f)

some_bytes : (c : ℕ) (more : List ℕ) → c ∷ more ≢ []
some_bytes c more e = let n = ap length e in let no : ⊥ = omega (arith, n) in no

dump_with : (blocks : List Block) (bytes : List ℕ) → IsRead blocks → (n : NextBlock (last_slot blocks) bytes) → IsDump (blocks ++ n.block ∷ [])
dump_with blocks bytes r n =
    let few = r.few in
    let more = length-append blocks (n.block ∷ []) in
    record { each = All-push IsBlock blocks n.block r.dump.each n.holds; rising = rising_more blocks n.block r.dump.rising n.above; room = omega (arith, few, more) }

text_with : (blocks : List Block) (bytes : List ℕ) (n : NextBlock (last_slot blocks) bytes) → text_of (blocks ++ n.block ∷ []) ++ n.rest ≡ text_of blocks ++ bytes
text_with blocks bytes n =
    ap (λ (t : List ℕ). t ++ n.rest) (flat_map-append block_text blocks (n.block ∷ []) ∙ ap (λ (t : List ℕ). text_of blocks ++ t) (append-nil (block_text n.block)))
    ∙ append_assoc (text_of blocks) (block_text n.block) n.rest ∙ ap (λ (t : List ℕ). text_of blocks ++ t) (sym n.split)

-- after some blocks, with at most so many more
judged_after : (left : ℕ) (blocks : List Block) (bytes : List ℕ) → IsDump blocks → 4096 ≤ length blocks + left → IsJudged (text_of blocks ++ bytes)
judged_after left blocks [] d enough = inl (blocks, (d, append-nil (text_of blocks)))
judged_after zero blocks (c ∷ more) d enough = let room = d.room in inr (TooMany _, fault_many blocks c more d (omega (arith, room, enough)))
judged_after (suc left) blocks (c ∷ more) d enough = elim (cases_lt (length blocks) 4096) [
  | inr full ↦ let room = d.room in inr (TooMany _, fault_many blocks c more d (omega (arith, room, full)))
  | inl few ↦
      let r : IsRead blocks = record { dump = d; few = few } in
      elim (one_block blocks (c ∷ more) r (some_bytes c more)) [
        | inr faulty_here ↦ inr faulty_here
        | inl n ↦
            let longer = length-append blocks (n.block ∷ []) in
            subst IsJudged (text_with blocks (c ∷ more) n) (judged_after left (blocks ++ n.block ∷ []) n.rest (dump_with blocks (c ∷ more) r n) (omega (arith, longer, enough)))
      ]
]

empty_dump : IsDump []
empty_dump = record { each = All-nil IsBlock; rising = (λ k below. absurd (omega (arith, below))); room = omega arith }

pub input_is_text_or_has_fault : InputIsTextOrHasFault
input_is_text_or_has_fault bytes = judged_after 4096 [] bytes empty_dump (omega arith)
