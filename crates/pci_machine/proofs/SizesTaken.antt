-- What was taken of a sizes text, and what is left of it.
use Rattle.std.proofs.Common.{◌≡◌, ◌≢◌, ◌⊎◌, ℕ, ◌+◌, ◌-◌, ◌*◌, ◌%◌, ◌<◌, ◌≤◌, ◌==◌, Bool, false, inl, inr, List, [], ◌∷◌, ◌++◌, length, take, refl, sym, ◌∙◌, ap, subst, arith, append_assoc, append-nil, Option, Some, None}
use Rattle.std.specs.Prelude.{min}
use Rattle.std.specs.Io.KnownBytes.{Consumes, IsAtEnd}
use Rattle.std.proofs.lemmas.Bool.{cases_lt, false≢true}
use Rattle.std.proofs.lemmas.List.{length-append, length-take}
use Rattle.std.proofs.lemmas.List.Elements.{All-push}
use Rattle.pci_spec.specs.Slot.{IsRising}
use Rattle.pci_spec.specs.SizesText.{SizesBlock, IsSizesBlock, sized_slots, IsSizes, sizes_text_of, IsSizesTextOf}
use Rattle.pci_spec.proofs.SizesTexts.{sizes_long, sizes_same}
use Rattle.pci_spec.proofs.SizesFaults.{fault_many}
use Rattle.pci_dump.proofs.Filled.{between_new}
use borrow.Rule.Slice.PartMut.{put_mid}
use Rattle.pci_dump.specs.declared.read_fault.ReadFault.{ReadFault}
use Rattle.pci_dump.specs.declared.read_fault.ReadFault.TheVariants as faults
use Rattle.pci_machine.specs.SizesFault.{IsSizesTextFault, IsSizesFaultAfter}

-- ---- one block

-- a byte after all that there is room for
pub many_here : (blocks : List SizesBlock) (bytes : List ℕ) → IsSizes blocks → 1 ≤ length bytes → length blocks ≡ 4096 → IsSizesFaultAfter blocks bytes (faults.TooMany 36865)
many_here blocks [] sizes some full more end = absurd (let no : ⊥ = omega (arith, some) in no)
many_here blocks (c ∷ bytes) sizes some full more end =
    subst (λ (n : ℕ). IsSizesTextFault (sizes_text_of blocks ++ c ∷ (bytes ++ more)) (faults.TooMany (9 * n + 0 + 1))) full (fault_many blocks c (bytes ++ more) sizes full)

-- the fault of a text isn't one of its source
pub no_io_after : (blocks : List SizesBlock) (bytes : List ℕ) (fault : ReadFault) → IsSizesFaultAfter blocks bytes fault → fault ≢ faults.Io
no_io_after blocks bytes fault h e = subst (λ (f : ReadFault). IsSizesFaultAfter blocks bytes f) e h [] (inr refl)

pub sizes_more : (blocks : List SizesBlock) (b : SizesBlock) → IsSizes blocks → IsSizesBlock b → IsRising (sized_slots (blocks ++ b ∷ [])) → length blocks ≢ 4096 → IsSizes (blocks ++ b ∷ [])
sizes_more blocks b sizes holds rising other =
    let room = sizes.room in
    let long = length-append blocks (b ∷ []) in
    record { each = All-push IsSizesBlock blocks b sizes.each holds; rising = rising; room = omega (arith, room, long, other) }

-- ---- blocks one after the other

-- of some bytes after some blocks, whole blocks were taken
pub record AreTaken (old : List SizesBlock) (bytes : List ℕ) (blocks : List SizesBlock) (rest : List ℕ) : Type 0 where
  pub sizes : IsSizes blocks
  pub text : sizes_text_of old ++ bytes ≡ sizes_text_of blocks ++ rest
  pub whole : length bytes % 408 ≡ 0 → length rest % 408 ≡ 0

pub taken_more : (old : List SizesBlock) (bytes : List ℕ) (blocks longer : List SizesBlock) (rest block more : List ℕ) → AreTaken old bytes blocks rest → rest ≡ block ++ more → length block ≡ min 408 (length rest)
    → sizes_text_of longer ≡ sizes_text_of blocks ++ block → IsSizes longer → AreTaken old bytes longer more
taken_more old bytes blocks longer rest block more t split long text sizes =
    let all = ap length split ∙ length-append block more in
    record {
      sizes = sizes;
      text = t.text ∙ ap (λ (x : List ℕ). sizes_text_of blocks ++ x) split ∙ sym (append_assoc (sizes_text_of blocks) block more) ∙ ap (λ (x : List ℕ). x ++ more) (sym text);
      whole = (λ h. let w = t.whole h in omega (arith, w, all, long));
    }

nil_by : (xs : List ℕ) → length xs ≡ 0 → xs ≡ []
nil_by [] e = refl
nil_by (x ∷ xs) e = absurd (let no : ⊥ = omega (arith, e) in no)

pub taken_fault : (old : List SizesBlock) (bytes : List ℕ) (blocks : List SizesBlock) (rest block more : List ℕ) (fault : ReadFault) → AreTaken old bytes blocks rest → rest ≡ block ++ more → length block ≡ min 408 (length rest) → 0 < length rest
    → IsSizesFaultAfter blocks block fault → IsSizesFaultAfter old bytes fault
taken_fault old bytes blocks rest block more fault t split long some h after end =
    let all = ap length split ∙ length-append block more in
    let text : sizes_text_of blocks ++ (block ++ (more ++ after)) ≡ sizes_text_of old ++ (bytes ++ after) =
    ap (λ (x : List ℕ). sizes_text_of blocks ++ x) (sym (append_assoc block more after) ∙ ap (λ (x : List ℕ). x ++ after) (sym split))
    ∙ sym (append_assoc (sizes_text_of blocks) rest after) ∙ ap (λ (x : List ℕ). x ++ after) (sym t.text) ∙ append_assoc (sizes_text_of old) bytes after in
    subst (λ (x : List ℕ). IsSizesTextFault x fault) text (h (more ++ after) (elim (cases_lt (length rest) 408) [
      | inr whole ↦ inl (let e : length block ≡ 408 = omega (arith, long, whole) in ap (λ (n : ℕ). n % 408) e)
      | inl part ↦
          let none : after ≡ [] = elim end [ inl whole ↦ absurd (let w = t.whole whole in let no : ⊥ = omega (arith, w, part, some) in no) | inr none ↦ none ] in
          let last : more ≡ [] = nil_by more (omega (arith, all, long, part)) in
          inr ((λ i. last i ++ none i))
    ]))

-- ---- a whole text

pub consumes_none : (o : Option (List ℕ)) → Consumes o o []
consumes_none None = tt
consumes_none (Some xs) = refl

pub consumes_more : (o m n : Option (List ℕ)) (xs ys : List ℕ) → Consumes o m xs → Consumes m n ys → Consumes o n (xs ++ ys)
consumes_more None m n xs ys h k = tt
consumes_more (Some us) None n xs ys h k = absurd h
consumes_more (Some us) (Some vs) None xs ys h k = absurd k
consumes_more (Some us) (Some vs) (Some ws) xs ys h k = h ∙ ap (λ (t : List ℕ). xs ++ t) k ∙ sym (append_assoc xs ys ws)

-- what was read before is the text of these blocks
pub record AreRead (before left : Option (List ℕ)) (blocks : List SizesBlock) : Type 0 where
  pub sizes : IsSizes blocks
  pub text : Consumes before left (sizes_text_of blocks)

pub read_chunk : (before middle left : Option (List ℕ)) (blocks longer : List SizesBlock) (chunk : List ℕ) → AreRead before middle blocks → Consumes middle left chunk → sizes_text_of longer ≡ sizes_text_of blocks ++ chunk → IsSizes longer → AreRead before left longer
read_chunk before middle left blocks longer chunk r consumed text sizes = record {
  sizes = sizes;
  text = subst (λ (t : List ℕ). Consumes before left t) (sym text) (consumes_more before middle left (sizes_text_of blocks) chunk r.text consumed);
}

at_end : (o m : Option (List ℕ)) (bytes xs : List ℕ) → o ≡ Some bytes → Consumes o m xs → IsAtEnd m → bytes ≡ xs
at_end None m bytes xs e c h = absurd cc
at_end (Some us) None bytes xs e c h = absurd c
at_end (Some us) (Some vs) bytes xs e c h = (let same : bytes ≡ us = cc in same) ∙ c ∙ ap (λ (t : List ℕ). xs ++ t) h ∙ append-nil xs

pub read_all : (before left : Option (List ℕ)) (blocks : List SizesBlock) (bytes : List ℕ) → AreRead before left blocks → IsAtEnd left → before ≡ Some bytes → IsSizesTextOf bytes blocks
read_all before left blocks bytes r end known = (r.sizes, at_end before left bytes (sizes_text_of blocks) known r.text end)

pub read_one : (before left : Option (List ℕ)) (blocks others : List SizesBlock) (bytes : List ℕ) → AreRead before left blocks → IsAtEnd left → before ≡ Some bytes → IsSizesTextOf bytes others → others ≡ blocks
read_one before left blocks others bytes r end known text =
    sizes_same others blocks text.0.each r.sizes.each (sym text.1 ∙ (read_all before left blocks bytes r end known).1)

-- the known bytes before and after a chunk
known_parts : (before middle left : Option (List ℕ)) (bytes xs chunk : List ℕ) → before ≡ Some bytes → Consumes before middle xs → Consumes middle left chunk → (rest : List ℕ) × (left ≡ Some rest) × (bytes ≡ xs ++ (chunk ++ rest))
known_parts None middle left bytes xs chunk e c d = absurd cc
known_parts (Some us) None left bytes xs chunk e c d = absurd c
known_parts (Some us) (Some vs) None bytes xs chunk e c d = absurd d
known_parts (Some us) (Some vs) (Some ws) bytes xs chunk e c d = (ws, refl, (let same : bytes ≡ us = cc in same) ∙ c ∙ ap (λ (t : List ℕ). xs ++ t) d)

none_left : (o : Option (List ℕ)) (rest : List ℕ) → o ≡ Some rest → IsAtEnd o → rest ≡ []
none_left None rest e h = absurd cc
none_left (Some xs) rest e h = (let same : rest ≡ xs = cc in same) ∙ h

pub read_fault : (before middle left : Option (List ℕ)) (blocks : List SizesBlock) (chunk bytes : List ℕ) (fault : ReadFault) → AreRead before middle blocks → Consumes middle left chunk → (length chunk % 408 ≡ 0) ⊎ IsAtEnd left
    → IsSizesFaultAfter blocks chunk fault → before ≡ Some bytes → IsSizesTextFault bytes fault
read_fault before middle left blocks chunk bytes fault r consumed end h known =
    let p = known_parts before middle left bytes (sizes_text_of blocks) chunk known r.text consumed in
    subst (λ (t : List ℕ). IsSizesTextFault t fault) (sym p.2) (h p.0 (elim end [ inl whole ↦ inl whole | inr over ↦ inr (none_left left p.0 p.1 over) ]))

-- each whole chunk has some blocks
pub longer_by_chunk : (blocks longer : List SizesBlock) (chunk : List ℕ) → IsSizes blocks → IsSizes longer → sizes_text_of longer ≡ sizes_text_of blocks ++ chunk → 408 ≤ length chunk → length blocks < length longer
longer_by_chunk blocks longer chunk sizes more text some =
    let a = sizes_long blocks sizes.each in
    let b = sizes_long longer more.each in
    let c = ap length text ∙ length-append (sizes_text_of blocks) chunk in
    omega (arith, a, b, c, some)

-- ---- a chunk that is read into

-- n bytes behind those that are there
pub chunk_more : (chunk new : List ℕ) (len k n : ℕ) → len ≤ length chunk → n ≤ length new → take (len + n) (put_mid len k chunk new) ≡ take len chunk ++ take n new
chunk_more chunk new len k n within few =
    let a : len + n ≡ len + n - 0 = omega arith in
    let b : len - 0 ≡ len = omega arith in
    ap (λ (j : ℕ). take j (put_mid len k chunk new)) a ∙ between_new chunk new 0 len k n (omega arith) within few ∙ ap (λ (j : ℕ). take j chunk ++ take n new) b

pub whole_chunk : (chunk : List ℕ) (len : ℕ) → length chunk ≡ 8160 → 8160 ≤ len → length (take len chunk) ≡ 8160
whole_chunk chunk len long whole = let l = length-take len chunk in omega (arith, l, long, whole)

pub some_left : (rest : List ℕ) (empty : Bool) → empty ≡ (length rest == 0) → empty ≡ false → 0 < length rest
some_left [] empty is none = absurd (false≢true (sym none ∙ is))
some_left (c ∷ rest) empty is none = omega arith
