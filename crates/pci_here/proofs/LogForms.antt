-- What stands behind a function's name in a line of the kernel's log: where it is cut.
use Rattle.std.proofs.Common.{◌≡◌, ◌⊎◌, ℕ, ◌+◌, ◌<◌, List, [], ◌∷◌, ◌++◌, get_or, Option, None, Some, MatchOption, Bor, codes, sym, ◌∙◌, ap, subst, inl, inr, arith}
use Rattle.std.specs.Str.Pattern.{FindsTextPrefix, StripsPrefix}
use Rattle.std.proofs.lemmas.Option.{none-some}
use Rattle.std.proofs.lemmas.Str.Pattern.{IsSplitOnceResult, split_after, split_parts}
use Rattle.pciplan_lists.specs.PoolWords.{IsAddressWord}
use Rattle.pciplan_lists.proofs.HexWords.{no_digit}
use Rattle.pciplan_lists.proofs.RangeWords.{IsNoDigit, without_address}
use Rattle.pciplan_lists.proofs.Without.{Without, not_without}
use Rattle.pci_here.specs.LogLine.{IsBarSize, IsBarText, IsBehindNumber, IsDevice, IsIoText, IsKind, IsKindSize, IsLogLine, IsPlainSize, IsSaidOf, IsSizeText, IsLogMessage}
use Rattle.pci_here.specs.Place.{FunctionPlace}
use Rattle.pci_here.specs.declared.log_line.BarSize.{BarSize}
use Rattle.pci_here.specs.declared.log_line.LogLine.{LogLine}
use Rattle.pci_here.specs.declared.log_line.SizeTold.{SizeTold}
use Rattle.pci_here.specs.declared.log_line.Told.{Told}
use Rattle.pci_here.specs.declared.log_line.Told.TheVariants.{Device, Size}
use Rattle.pci_here.proofs.Names.{stripped, strip_there}

-- ---- a device

pub no_bracket : (text : List ℕ) → FindsTextPrefix (codes "[") text None → IsDevice text → ⊥
no_bracket text none is = stripped (codes "[") text None none (is.id ++ 93 ∷ (codes " type " ++ is.more)) is.parts

-- what stands behind the bracket of a device
device_rest : (text : List ℕ) (rest : Bor (List ℕ)) → StripsPrefix (FindsTextPrefix (codes "[")) text rest.now → (is : IsDevice text)
    → rest.now ≡ is.id ++ 93 ∷ (codes " type " ++ is.more)
device_rest text rest cut is = stripped (codes "[") text (Some rest) cut (is.id ++ 93 ∷ (codes " type " ++ is.more)) is.parts

pub no_end : (text : List ℕ) (rest : Bor (List ℕ)) → StripsPrefix (FindsTextPrefix (codes "[")) text rest.now → IsSplitOnceResult 93 rest.now None
    → IsDevice text → ⊥
no_end text rest first none is =
    split_after 93 rest.now is.id (codes " type " ++ is.more) None none (omega arith) (device_rest text rest first is) is.whole

pub device_or_none : (text : List ℕ) (rest : Bor (List ℕ)) (parts : Bor (List ℕ) × Bor (List ℕ)) (found : Option (Bor (List ℕ)))
    → StripsPrefix (FindsTextPrefix (codes "[")) text rest.now → IsSplitOnceResult 93 rest.now (Some parts)
    → MatchOption found (FindsTextPrefix (codes " type ") parts.1.now None) (λ x. StripsPrefix (FindsTextPrefix (codes " type ")) parts.1.now x.now)
    → MatchOption found (IsDevice text → ⊥) (λ _. IsDevice text)
device_or_none text rest parts None first cut none = λ is.
    let same = split_after 93 rest.now is.id (codes " type " ++ is.more) (Some parts) cut (omega arith) (device_rest text rest first is) is.whole in
    stripped (codes " type ") parts.1.now None none is.more same.1
device_or_none text rest parts (Some more) first cut last =
    let halves = split_parts 93 rest.now (Some parts) cut (omega arith) in
    record {
      id = parts.0.now;
      more = more.now;
      parts = strip_there (codes "[") text rest first
          ∙ ap (λ t. 91 ∷ t) (halves.0 ∙ ap (λ t. parts.0.now ++ 93 ∷ t) (strip_there (codes " type ") parts.1.now more last));
      whole = halves.1;
    }

-- ---- a size

blank_no_digit : IsNoDigit 32
blank_no_digit = no_digit 32 (inl (omega arith))

-- a size with no words behind it, and one with some
pub memory_whole : (text : List ℕ) → IsSplitOnceResult 32 text None → (result : Option SizeTold)
    → MatchOption result ((s : SizeTold) → IsPlainSize 512 text s → ⊥) (IsPlainSize 512 text)
    → MatchOption result ((s : SizeTold) → IsPlainSize 512 text s ⊎ IsKindSize text s → ⊥) (λ s. IsPlainSize 512 text s ⊎ IsKindSize text s)
memory_whole text cut None none = λ s is. elim is [
  | inl whole ↦ none s whole
  | inr kind ↦ split_after 32 text kind.digits kind.kind None cut (omega arith) kind.parts (without_address 32 blank_no_digit kind.digits s.size kind.is)
]
memory_whole text cut (Some s) is = inl is

-- what a size with some words is
pub kind_parts : (text : List ℕ) (parts : Bor (List ℕ) × Bor (List ℕ)) → IsSplitOnceResult 32 text (Some parts) → (s : SizeTold)
    → IsPlainSize 512 text s ⊎ IsKindSize text s → IsKind parts.1.now s.flags × IsAddressWord parts.0.now s.size
kind_parts text parts cut s (inl whole) =
    let halves = split_parts 32 text (Some parts) cut (omega arith) in
    absurd (not_without 32 parts.0.now parts.1.now (subst (Without 32) halves.0 (without_address 32 blank_no_digit text s.size whole.1)))
kind_parts text parts cut s (inr kind) =
    let same = split_after 32 text kind.digits kind.kind (Some parts) cut (omega arith) kind.parts (without_address 32 blank_no_digit kind.digits s.size kind.is) in
    (subst (λ w. IsKind w s.flags) (sym same.1) kind.is_kind, subst (λ w. IsAddressWord w s.size) (sym same.0) kind.is)

pub memory_kind : (text : List ℕ) (parts : Bor (List ℕ) × Bor (List ℕ)) → IsSplitOnceResult 32 text (Some parts)
    → (flags : ℕ) → IsKind parts.1.now flags → ((other : ℕ) → IsKind parts.1.now other → Some flags ≡ Some other) → (result : Option SizeTold)
    → MatchOption result ((s : SizeTold) → IsPlainSize flags parts.0.now s → ⊥) (IsPlainSize flags parts.0.now)
    → MatchOption result ((s : SizeTold) → IsPlainSize 512 text s ⊎ IsKindSize text s → ⊥) (λ s. IsPlainSize 512 text s ⊎ IsKindSize text s)
memory_kind text parts cut flags is_kind only None none = λ s is.
    let told = kind_parts text parts cut s is in
    let same : Some flags ≡ Some s.flags = only s.flags told.0 in
    none s (sym (cc same), told.1)
memory_kind text parts cut flags is_kind only (Some s) is =
    inr record {
      digits = parts.0.now;
      kind = parts.1.now;
      parts = (split_parts 32 text (Some parts) cut (omega arith)).0;
      is_kind = subst (λ f. IsKind parts.1.now f) (sym is.0) is_kind;
      is = is.1;
    }

pub no_kind : (text : List ℕ) (parts : Bor (List ℕ) × Bor (List ℕ)) → IsSplitOnceResult 32 text (Some parts)
    → ((other : ℕ) → IsKind parts.1.now other → None ≡ Some other) → (s : SizeTold) → IsPlainSize 512 text s ⊎ IsKindSize text s → ⊥
no_kind text parts cut none s is = none-some s.flags (none s.flags (kind_parts text parts cut s is).0)

-- ---- the text between brackets

apart : (a b : ℕ) → a < b → a ≡ b → ⊥
apart a b less same = omega arith

one_blank : (text rest other : List ℕ) → text ≡ codes "io  size 0x" ++ rest → text ≡ codes "io size 0x" ++ other → ⊥
one_blank text rest other two one = apart 32 115 (omega arith) (ap (λ (t : List ℕ). get_or t 3 0) (sym two ∙ one))

pub io_two : (text : List ℕ) (rest : Bor (List ℕ)) → StripsPrefix (FindsTextPrefix (codes "io  size 0x")) text rest.now → (result : Option SizeTold)
    → MatchOption result ((s : SizeTold) → IsPlainSize 257 rest.now s → ⊥) (IsPlainSize 257 rest.now)
    → MatchOption result ((s : SizeTold) → IsIoText text s → ⊥) (IsIoText text)
io_two text rest cut None none = λ s is. elim is [
  | inl two ↦ none s (subst (λ t. IsPlainSize 257 t s) (sym (stripped (codes "io  size 0x") text (Some rest) cut two.0 two.1)) two.2)
  | inr one ↦ absurd (one_blank text rest.now one.0 (strip_there (codes "io  size 0x") text rest cut) one.1)
]
io_two text rest cut (Some s) is = inl (rest.now, strip_there (codes "io  size 0x") text rest cut, is)

pub io_one : (text : List ℕ) (rest : Bor (List ℕ)) → FindsTextPrefix (codes "io  size 0x") text None
    → StripsPrefix (FindsTextPrefix (codes "io size 0x")) text rest.now → (result : Option SizeTold)
    → MatchOption result ((s : SizeTold) → IsPlainSize 257 rest.now s → ⊥) (IsPlainSize 257 rest.now)
    → MatchOption result ((s : SizeTold) → IsIoText text s → ⊥) (IsIoText text)
io_one text rest no_two cut None none = λ s is. elim is [
  | inl two ↦ absurd (stripped (codes "io  size 0x") text None no_two two.0 two.1)
  | inr one ↦ none s (subst (λ t. IsPlainSize 257 t s) (sym (stripped (codes "io size 0x") text (Some rest) cut one.0 one.1)) one.2)
]
io_one text rest no_two cut (Some s) is = inr (rest.now, strip_there (codes "io size 0x") text rest cut, is)

pub no_io : (text : List ℕ) → FindsTextPrefix (codes "io  size 0x") text None → FindsTextPrefix (codes "io size 0x") text None
    → (s : SizeTold) → IsIoText text s → ⊥
no_io text no_two no_one s is = elim is [
  | inl two ↦ stripped (codes "io  size 0x") text None no_two two.0 two.1
  | inr one ↦ stripped (codes "io size 0x") text None no_one one.0 one.1
]

memory_no_io : (text rest : List ℕ) (s : SizeTold) → text ≡ codes "mem size 0x" ++ rest → IsIoText text s → ⊥
memory_no_io text rest s memory is = elim is [
  | inl two ↦ apart 105 109 (omega arith) (ap (λ (t : List ℕ). get_or t 0 0) (sym two.1 ∙ memory))
  | inr one ↦ apart 105 109 (omega arith) (ap (λ (t : List ℕ). get_or t 0 0) (sym one.1 ∙ memory))
]

pub text_of_memory : (text : List ℕ) (rest : Bor (List ℕ)) → StripsPrefix (FindsTextPrefix (codes "mem size 0x")) text rest.now → (result : Option SizeTold)
    → MatchOption result ((s : SizeTold) → IsPlainSize 512 rest.now s ⊎ IsKindSize rest.now s → ⊥) (λ s. IsPlainSize 512 rest.now s ⊎ IsKindSize rest.now s)
    → MatchOption result ((s : SizeTold) → IsSizeText text s → ⊥) (IsSizeText text)
text_of_memory text rest cut None none = λ s is. elim is [
  | inl memory ↦ none s (subst (λ t. IsPlainSize 512 t s ⊎ IsKindSize t s) (sym (stripped (codes "mem size 0x") text (Some rest) cut memory.0 memory.1)) memory.2)
  | inr io ↦ absurd (memory_no_io text rest.now s (strip_there (codes "mem size 0x") text rest cut) io)
]
text_of_memory text rest cut (Some s) is = inl (rest.now, strip_there (codes "mem size 0x") text rest cut, is)

pub text_of_io : (text : List ℕ) → FindsTextPrefix (codes "mem size 0x") text None → (result : Option SizeTold)
    → MatchOption result ((s : SizeTold) → IsIoText text s → ⊥) (IsIoText text)
    → MatchOption result ((s : SizeTold) → IsSizeText text s → ⊥) (IsSizeText text)
text_of_io text no_memory None none = λ s is. elim is [
  | inl memory ↦ absurd (stripped (codes "mem size 0x") text None no_memory memory.0 memory.1)
  | inr io ↦ none s io
]
text_of_io text no_memory (Some s) is = inr is

-- ---- the number of a BAR

pub behind_number : (text : List ℕ) → text ≡ 32 ∷ [] → IsBehindNumber text
behind_number text is = inl is

pub no_bar_name : (text : List ℕ) → FindsTextPrefix (codes "BAR ") text None → (bar : ℕ) → IsBarText text bar → ⊥
no_bar_name text none bar is = stripped (codes "BAR ") text None none ((48 + bar) ∷ is.more) is.parts

pub bar_rest : (text : List ℕ) (rest : Bor (List ℕ)) → StripsPrefix (FindsTextPrefix (codes "BAR ")) text rest.now → (bar : ℕ) (is : IsBarText text bar)
    → rest.now ≡ (48 + bar) ∷ is.more
bar_rest text rest cut bar is = stripped (codes "BAR ") text (Some rest) cut ((48 + bar) ∷ is.more) is.parts

pub bar_there : (text : List ℕ) (rest : Bor (List ℕ)) (bar : ℕ) (more : List ℕ) → StripsPrefix (FindsTextPrefix (codes "BAR ")) text rest.now
    → rest.now ≡ (48 + bar) ∷ more → bar < 6 → IsBehindNumber more → IsBarText text bar
bar_there text rest bar more cut is below behind =
    record { below = below; more = more; parts = strip_there (codes "BAR ") text rest cut ∙ ap (λ t. codes "BAR " ++ t) is; behind = behind }

-- ---- the size of a BAR

pub no_open : (text : List ℕ) → IsSplitOnceResult 91 text None → (size : BarSize) → IsBarSize text size → ⊥
no_open text none size is = split_after 91 text is.front (is.inside ++ 93 ∷ is.more) None none (omega arith) is.parts is.no_open

bar_front : (text : List ℕ) (first : Bor (List ℕ) × Bor (List ℕ)) → IsSplitOnceResult 91 text (Some first) → (size : BarSize) (is : IsBarSize text size)
    → (first.0.now ≡ is.front) × (first.1.now ≡ is.inside ++ 93 ∷ is.more)
bar_front text first cut size is = split_after 91 text is.front (is.inside ++ 93 ∷ is.more) (Some first) cut (omega arith) is.parts is.no_open

pub no_close : (text : List ℕ) (first : Bor (List ℕ) × Bor (List ℕ)) → IsSplitOnceResult 91 text (Some first) → IsSplitOnceResult 93 first.1.now None
    → (size : BarSize) → IsBarSize text size → ⊥
no_close text first one none size is =
    split_after 93 first.1.now is.inside is.more None none (omega arith) (bar_front text first one size is).1 is.no_close

pub no_number : (text : List ℕ) (first : Bor (List ℕ) × Bor (List ℕ)) → IsSplitOnceResult 91 text (Some first)
    → ((bar : ℕ) → IsBarText first.0.now bar → ⊥) → (size : BarSize) → IsBarSize text size → ⊥
no_number text first one none size is =
    none size.bar (subst (λ t. IsBarText t size.bar) (sym (bar_front text first one size is).0) is.of_bar)

pub no_size : (text : List ℕ) (first second : Bor (List ℕ) × Bor (List ℕ)) → IsSplitOnceResult 91 text (Some first)
    → IsSplitOnceResult 93 first.1.now (Some second) → ((s : SizeTold) → IsSizeText second.0.now s → ⊥) → (size : BarSize) → IsBarSize text size → ⊥
no_size text first second one two none size is =
    let same = split_after 93 first.1.now is.inside is.more (Some second) two (omega arith) (bar_front text first one size is).1 is.no_close in
    none size.told (subst (λ t. IsSizeText t size.told) (sym same.0) is.is)

pub size_there : (text : List ℕ) (first second : Bor (List ℕ) × Bor (List ℕ)) (bar : ℕ) (told : SizeTold) → IsSplitOnceResult 91 text (Some first)
    → IsSplitOnceResult 93 first.1.now (Some second) → IsBarText first.0.now bar → IsSizeText second.0.now told
    → IsBarSize text record { bar = bar; told = told }
size_there text first second bar told one two of_bar is =
    let opened = split_parts 91 text (Some first) one (omega arith) in
    let closed = split_parts 93 first.1.now (Some second) two (omega arith) in
    record {
      front = first.0.now;
      inside = second.0.now;
      more = second.1.now;
      parts = opened.0 ∙ ap (λ t. first.0.now ++ 91 ∷ t) closed.0;
      no_open = opened.1;
      no_close = closed.1;
      of_bar = of_bar;
      is = is;
    }

-- ---- what is told

pub nothing_told : (text : List ℕ) → (IsDevice text → ⊥) → ((size : BarSize) → IsBarSize text size → ⊥) → (told : Told) → IsLogMessage text told → ⊥
nothing_told text no_device no_bar Device is = no_device is
nothing_told text no_device no_bar (Size size) is = no_bar size is

pub no_function : (line : List ℕ) → ((p : FunctionPlace) (text : List ℕ) → IsSaidOf line p text → ⊥) → (l : LogLine) → IsLogLine line l → ⊥
no_function line none l is = none l.place is.text is.said

pub nothing_of_it : (line text : List ℕ) (place : FunctionPlace) → ((p : FunctionPlace) (other : List ℕ) → IsSaidOf line p other → (p ≡ place) × (other ≡ text))
    → ((told : Told) → IsLogMessage text told → ⊥) → (l : LogLine) → IsLogLine line l → ⊥
nothing_of_it line text place only none l is = none l.told (subst (λ t. IsLogMessage t l.told) (only l.place is.text is.said).1 is.is)
