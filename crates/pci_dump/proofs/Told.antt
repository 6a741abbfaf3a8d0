-- What writes in turn leave.
use Rattle.std.proofs.Common.{◌≡◌, ℕ, ◌+◌, ◌-◌, ◌<◌, get_or, List, [], ◌++◌, length, sym, ap, ◌∙◌, refl, take, drop, Some, None, append_assoc}
use Rattle.std.specs.Prelude.{Option}
use Rattle.std.proofs.lemmas.Grind.{flat_map-append}
use Rattle.pci_spec.specs.Text.{Block, block_text, text_of}
use Rattle.pci_dump.proofs.Texts.{text_more}
use Rattle.std.proofs.lemmas.List.{take_more, take-append-drop, take_rest, append-nil}
use Rattle.std.specs.Io.KnownBytes.{Appends, Keeps}
use Rattle.pci_dump.specs.Begun.{AppendsUpTo, AppendsBeginning}

pub Appends-more : (o m n : Option (List ℕ)) (b c : List ℕ) → Appends o m b → Appends m n c → Appends o n (b ++ c)
Appends-more None m n b c h k = tt
Appends-more (Some xs) None n b c h k = absurd h
Appends-more (Some xs) (Some ys) None b c h k = k
Appends-more (Some xs) (Some ys) (Some zs) b c h k = k ∙ ap (λ v. v ++ c) h ∙ append_assoc xs b c

pub Appends-kept : (o m n : Option (List ℕ)) (b : List ℕ) → Appends o m b → Keeps m n → Appends o n b
Appends-kept None m n b h k = tt
Appends-kept (Some xs) None n b h k = absurd h
Appends-kept (Some xs) (Some ys) None b h k = k
Appends-kept (Some xs) (Some ys) (Some zs) b h k = k ∙ h

pub UpTo-more : (o m n : Option (List ℕ)) (text rest : List ℕ) (k : ℕ) → AppendsUpTo o m text rest → Appends m n (take k rest) → AppendsUpTo o n text (take (length rest - k) (drop k rest))
UpTo-more o m n text rest k u h = record {
  begun = u.begun ++ take k rest;
  parts = u.parts ∙ ap (λ v. u.begun ++ v) (sym (take-append-drop k rest)) ∙ sym (append_assoc u.begun (take k rest) (drop k rest)) ∙ ap (λ v. (u.begun ++ take k rest) ++ v) (sym (take_rest rest k));
  appends = Appends-more o m n u.begun (take k rest) u.appends h;
}

pub UpTo-kept : (o m n : Option (List ℕ)) (text rest : List ℕ) → AppendsUpTo o m text rest → Keeps m n → AppendsBeginning o n text
UpTo-kept o m n text rest u k = (rest, record { begun = u.begun; parts = u.parts; appends = Appends-kept o m n u.begun u.appends k })

pub UpTo-start : (o : Option (List ℕ)) (text : List ℕ) → AppendsUpTo o o text text
UpTo-start None text = record { begun = []; parts = refl; appends = tt }
UpTo-start (Some xs) text = record { begun = []; parts = refl; appends = sym (append-nil xs) }

-- ---- blocks one after the other

text_split : (blocks : List Block) (i : ℕ) (b : Block) → i < length blocks → b ≡ get_or blocks i b → text_of blocks ≡ text_of (take i blocks) ++ (block_text b ++ text_of (drop (i + 1) blocks))
text_split blocks i b within is =
    ap text_of (sym (take-append-drop (i + 1) blocks)) ∙ flat_map-append block_text (take (i + 1) blocks) (drop (i + 1) blocks)
    ∙ ap (λ (t : List ℕ). t ++ text_of (drop (i + 1) blocks)) (ap text_of (take_more blocks i b within) ∙ text_more (take i blocks) (get_or blocks i b) ∙ ap (λ (x : Block). text_of (take i blocks) ++ block_text x) (sym is))
    ∙ append_assoc (text_of (take i blocks)) (block_text b) (text_of (drop (i + 1) blocks))

pub text_begun : (o m n : Option (List ℕ)) (blocks : List Block) (i : ℕ) (b : Block) → i < length blocks → b ≡ get_or blocks i b → Appends o m (text_of (take i blocks)) → AppendsBeginning m n (block_text b)
    → AppendsBeginning o n (text_of blocks)
text_begun o m n blocks i b within is h (rest, u) = (
  rest ++ text_of (drop (i + 1) blocks),
  record {
    begun = text_of (take i blocks) ++ u.begun;
    parts = text_split blocks i b within is ∙ ap (λ (t : List ℕ). text_of (take i blocks) ++ (t ++ text_of (drop (i + 1) blocks))) u.parts
        ∙ ap (λ (t : List ℕ). text_of (take i blocks) ++ t) (append_assoc u.begun rest (text_of (drop (i + 1) blocks)))
        ∙ sym (append_assoc (text_of (take i blocks)) u.begun (rest ++ text_of (drop (i + 1) blocks)));
    appends = Appends-more o m n (text_of (take i blocks)) u.begun h u.appends;
  },
)
