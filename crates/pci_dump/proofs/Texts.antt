-- What was read of a text, and what is left of it.
use Rattle.std.proofs.Common.{refl, ◌≡◌, ◌≢◌, ℕ, List, [], ◌∷◌, ◌++◌, arith, sym, ◌∙◌, ap, subst, length, Option, Some, None, append_assoc, append-nil}
use Rattle.std.specs.Io.KnownBytes.{Consumes, Keeps, IsAtEnd}
use Rattle.std.proofs.lemmas.List.{length-append}
use Rattle.pci_spec.specs.Slot.{Slot}
use Rattle.pci_spec.specs.Text.{Block, IsTextOf, block_text, text_of}
use Rattle.pci_spec.specs.Stops.{IsAboveLast, last_slot}
use Rattle.pci_dump.specs.declared.read_fault.ReadFault.{ReadFault}
use Rattle.pci_dump.specs.declared.read_fault.ReadFault.TheVariants as faults
use Rattle.pci_dump.specs.ReadFault.{IsTextFault}
use Rattle.pci_dump.specs.State.{State, IsRead, TakesBlock, TakesNone, TakesFault}
use Rattle.pci_spec.proofs.Spelling.{text_same}
use Rattle.pci_dump.proofs.Blocks.{dump_more}

-- a text with a block more
pub text_more : (blocks : List Block) (b : Block) → text_of (blocks ++ b ∷ []) ≡ text_of blocks ++ block_text b
text_more [] b = append-nil (block_text b)
text_more (a ∷ blocks) b = ap (λ (t : List ℕ). block_text a ++ t) (text_more blocks b) ∙ sym (append_assoc (block_text a) (text_of blocks) (block_text b))

pub last_more : (blocks : List Block) (b : Block) → last_slot (blocks ++ b ∷ []) ≡ Some b.slot
last_more [] b = refl
last_more (a ∷ []) b = refl
last_more (a ∷ c ∷ blocks) b = last_more (c ∷ blocks) b

consumes_more : (o m n : Option (List ℕ)) (xs ys : List ℕ) → Consumes o m xs → Consumes m n ys → Consumes o n (xs ++ ys)
consumes_more None m n xs ys h k = tt
consumes_more (Some us) None n xs ys h k = absurd h
consumes_more (Some us) (Some vs) None xs ys h k = absurd k
consumes_more (Some us) (Some vs) (Some ws) xs ys h k = h ∙ ap (λ (t : List ℕ). xs ++ t) k ∙ sym (append_assoc xs ys ws)

pub read_more_text : (before : Option (List ℕ)) (failures : ℕ) (old new : State) (blocks more : List Block) (b : Block) → IsRead before failures old blocks → TakesBlock old new b → more ≡ blocks ++ b ∷ []
    → IsRead before failures new more
read_more_text before failures old new blocks more b r t e =
    let above : IsAboveLast (last_slot blocks) b.slot = subst (λ (o : Option Slot). IsAboveLast o b.slot) r.last t.above in
    let count = r.count in let few = t.few in let next = t.count in
    let long = ap length e ∙ length-append blocks (b ∷ []) in
    record {
      dump = dump_more blocks more b r.dump t.block above (omega (arith, count, few)) e;
      text = subst (λ (x : List ℕ). Consumes before new.left x) (sym (text_more blocks b) ∙ ap text_of (sym e)) (consumes_more before old.left new.left (text_of blocks) (block_text b) r.text t.text);
      count = omega (arith, count, next, long);
      last = t.last ∙ sym (last_more blocks b) ∙ ap last_slot (sym e);
      going = t.progress;
      fine = t.failures ∙ r.fine;
    }

at_end : (o m : Option (List ℕ)) (bytes xs : List ℕ) → o ≡ Some bytes → Consumes o m xs → IsAtEnd m → bytes ≡ xs
at_end None m bytes xs e c h = absurd cc
at_end (Some us) None bytes xs e c h = absurd c
at_end (Some us) (Some vs) bytes xs e c h = (let same : bytes ≡ us = cc in same) ∙ c ∙ ap (λ (t : List ℕ). xs ++ t) h ∙ append-nil xs

end_known : (o m : Option (List ℕ)) → Keeps o m → IsAtEnd m → IsAtEnd o
end_known None m k h = tt
end_known (Some xs) None k h = absurd k
end_known (Some xs) (Some ys) k h = sym k ∙ h

-- the whole text was read
pub read_all : (before : Option (List ℕ)) (failures : ℕ) (old new : State) (blocks : List Block) (bytes : List ℕ) → IsRead before failures old blocks → TakesNone old new → before ≡ Some bytes → IsTextOf bytes blocks
read_all before failures old new blocks bytes r t known = (r.dump, at_end before old.left bytes (text_of blocks) known r.text (end_known old.left new.left t.kept t.at_end))

left_known : (o m : Option (List ℕ)) (bytes xs : List ℕ) → o ≡ Some bytes → Consumes o m xs → (rest : List ℕ) × (m ≡ Some rest) × (bytes ≡ xs ++ rest)
left_known None m bytes xs e c = absurd cc
left_known (Some us) None bytes xs e c = absurd c
left_known (Some us) (Some vs) bytes xs e c = (vs, refl, (let same : bytes ≡ us = cc in same) ∙ c)

-- the fault where a text stops is the whole text's
pub read_fault : (before : Option (List ℕ)) (failures : ℕ) (old new : State) (blocks : List Block) (bytes : List ℕ) (fault : ReadFault) → IsRead before failures old blocks → TakesFault old new fault → before ≡ Some bytes
    → fault ≢ faults.Io → IsTextFault bytes fault
read_fault before failures old new blocks bytes fault r t known no_io =
    let left = left_known before old.left bytes (text_of blocks) known r.text in
    subst (λ (x : List ℕ). IsTextFault x fault) (sym left.2) (t.text left.0 r.going left.1 no_io blocks r.dump (sym r.count) (sym r.last))

-- no other blocks have that text
pub read_all_one : (before : Option (List ℕ)) (failures : ℕ) (old new : State) (blocks others : List Block) (bytes : List ℕ) → IsRead before failures old blocks → TakesNone old new → before ≡ Some bytes → IsTextOf bytes others → others ≡ blocks
read_all_one before failures old new blocks others bytes r t known text =
    let mine = read_all before failures old new blocks bytes r t known in
    text_same others blocks text.0.each mine.0.each (sym text.1 ∙ mine.1)
