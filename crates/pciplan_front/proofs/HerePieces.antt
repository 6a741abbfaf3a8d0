-- What is written of domains, one after the other.
use Rattle.std.proofs.Common.{◌≡◌, ◌⊎◌, ℕ, ◌+◌, ◌<◌, ◌≤◌, Bool, List, [], ◌∷◌, ◌++◌, Option, None, Some, IfSome, length, refl, sym, ap, subst, ◌∙◌, map, take, drop, fold, get_or, nat_lt, inl, inr, append_assoc, arith}
use Rattle.std.specs.Io.KnownBytes.{Appends}
use Rattle.std.proofs.lemmas.Bool.Decides.{nat_tests}
use Rattle.std.proofs.lemmas.Grind.{flat_map-append}
use Rattle.std.proofs.lemmas.List.{append-nil, map-append, take_more, take-append-drop}
use Rattle.std.proofs.lemmas.List.Elements.{All-append, All-cons, All-nil}
use Rattle.std.proofs.lemmas.List.Sums.{fold-append}
use Rattle.pci_dump.proofs.Told.{Appends-more}
use Rattle.pci_dump.specs.Begun.{AppendsBeginning}
use Rattle.pci_here.specs.Domain.{IsNoDomain}
use Rattle.pci_here.specs.Shown.{Shown}
use Rattle.pci_here.specs.Trouble.{trouble_status}
use Rattle.pci_here.specs.declared.trouble.Trouble.{Trouble}
use Rattle.pci_here.specs.declared.trouble.Trouble.TheVariants.{Memory, Unread, Short, NoRoot, TooMany}
use Rattle.pci_here.specs.declared.trouble.TroubleAt.{TroubleAt}
use Rattle.pciplan_tasks.specs.Answers.{Answer}
use Rattle.pciplan_front.specs.HereTold.{AreDomainPieces, AreBegun, AreDomainsTold, IsCutOff, IsPiece, IsPieceOut, IsPrint, IsTrouble, Piece, greater, text_of_pieces}
use Rattle.pciplan_front.specs.Went.{went}
use Rattle.pciplan_front.specs.declared.here_asked.What.{What}

-- nothing went out
pub none_out : (o : Option (List ℕ)) → Appends o o []
none_out None = tt
none_out (Some bytes) = sym (append-nil bytes)

-- a beginning of a second text after all of a first one, and one of the first alone
pub begun_behind : (o m n : Option (List ℕ)) (a b : List ℕ) → Appends o m a → AppendsBeginning m n b → AppendsBeginning o n (a ++ b)
begun_behind o m n a b all (rest, up) = (
  rest,
  record {
    begun = a ++ up.begun;
    parts = ap (λ v. a ++ v) up.parts ∙ sym (append_assoc a up.begun rest);
    appends = Appends-more o m n a up.begun all up.appends;
  },
)

pub begun_before : (o n : Option (List ℕ)) (a b : List ℕ) → AppendsBeginning o n a → AppendsBeginning o n (a ++ b)
begun_before o n a b (rest, up) = (
  rest ++ b,
  record {
    begun = up.begun;
    parts = ap (λ v. v ++ b) up.parts ∙ append_assoc up.begun rest b;
    appends = up.appends;
  },
)

-- a piece more
pub pieces_more : (shown : Option Shown) (what : What) (headed : Bool) (first : List ℕ) (pieces : List Piece) (p : Piece)
    → AreDomainPieces shown what headed first pieces → IsPiece shown what headed p
    → AreDomainPieces shown what headed (first ++ p.domain ∷ []) (pieces ++ p ∷ [])
pieces_more shown what headed first pieces p are is =
    record {
      of_domains = map-append (λ (q : Piece). q.domain) pieces (p ∷ []) ∙ ap (λ v. v ++ p.domain ∷ []) are.of_domains;
      each = All-append (IsPiece shown what headed) pieces (p ∷ []) are.each (All-cons (IsPiece shown what headed) p [] is (All-nil (IsPiece shown what headed)));
    }

text_more : (pieces : List Piece) (p : Piece) → text_of_pieces (pieces ++ p ∷ []) ≡ text_of_pieces pieces ++ p.text
text_more pieces p = flat_map-append (λ (q : Piece). q.text) pieces (p ∷ []) ∙ ap (λ v. text_of_pieces pieces ++ v) (append-nil p.text)

status_more : (pieces : List Piece) (p : Piece)
    → fold greater 0 (map (λ (q : Piece). q.status) (pieces ++ p ∷ [])) ≡ greater (fold greater 0 (map (λ (q : Piece). q.status) pieces)) p.status
status_more pieces p =
    ap (fold greater 0) (map-append (λ (q : Piece). q.status) pieces (p ∷ [])) ∙ fold-append greater 0 (map (λ (q : Piece). q.status) pieces) (p.status ∷ [])

-- nothing is told yet
pub told_none : (shown : Option Shown) (what : What) (headed : Bool) (o : Option (List ℕ)) → AreDomainsTold shown what headed [] 0 (Appends o o)
told_none shown what headed o =
    record { pieces = []; are = record { of_domains = refl; each = All-nil (IsPiece shown what headed) }; status_is = refl; written = none_out o }

-- a domain more is told
pub told_more : (shown : Option Shown) (what : What) (headed : Bool) (domains : List ℕ) (i d : ℕ) (status other : ℕ) (o m n : Option (List ℕ))
    → i < length domains → AreDomainsTold shown what headed (take i domains) status (Appends o m)
    → IsPieceOut shown what headed (get_or domains i d) other (Appends m n)
    → AreDomainsTold shown what headed (take (i + 1) domains) (greater status other) (Appends o n)
told_more shown what headed domains i d status other o m n within told out =
    let p : Piece = record { domain = get_or domains i d; status = other; text = out.text } in
    record {
      pieces = told.pieces ++ p ∷ [];
      are = subst (λ v. AreDomainPieces shown what headed v (told.pieces ++ p ∷ [])) (sym (take_more domains i d within))
          (pieces_more shown what headed (take i domains) told.pieces p told.are out.is);
      status_is = ap (λ v. greater v other) told.status_is ∙ sym (status_more told.pieces p);
      written = subst (Appends o n) (sym (text_more told.pieces p)) (Appends-more o m n (text_of_pieces told.pieces) out.text told.written out.written);
    }

-- a write failed in the piece of a domain
pub cut_off : (shown : Option Shown) (what : What) (headed : Bool) (domains : List ℕ) (i d : ℕ) (status other : ℕ) (o m n : Option (List ℕ))
    → i < length domains → AreDomainsTold shown what headed (take i domains) status (Appends o m)
    → IsPieceOut shown what headed (get_or domains i d) other (AppendsBeginning m n)
    → AreBegun shown what headed domains (AppendsBeginning o n)
cut_off shown what headed domains i d status other o m n within told out =
    let p : Piece = record { domain = get_or domains i d; status = other; text = out.text } in
    record {
      first = take (i + 1) domains;
      behind = drop (i + 1) domains;
      parts = sym (take-append-drop (i + 1) domains);
      pieces = told.pieces ++ p ∷ [];
      are = subst (λ v. AreDomainPieces shown what headed v (told.pieces ++ p ∷ [])) (sym (take_more domains i d within))
          (pieces_more shown what headed (take i domains) told.pieces p told.are out.is);
      written = subst (AppendsBeginning o n) (sym (text_more told.pieces p))
          (begun_behind o m n (text_of_pieces told.pieces) out.text told.written out.written);
    }

-- all of a list of domains are told, or a write failed; `count` of them are headed
abbrev ListTold : What → ℕ → Option (List ℕ) → Option (List ℕ) → Type 0 → Type 0 → Option Shown → ℕ → List ℕ → Type 0
ListTold what status o n same failed shown count domains =
    AreDomainsTold shown what (nat_lt 1 count) domains status (Appends o n)
    ⊎ IsCutOff shown what (nat_lt 1 count) domains status (went o n same failed)

-- the same of an equal machine, and of an equal list
pub told_of_list : (known shown : Option Shown) (what : What) (count : ℕ) (told domains : List ℕ) (status : ℕ) (o n : Option (List ℕ)) (same failed : Type 0)
    → known ≡ shown → count ≡ length domains → told ≡ domains → ListTold what status o n same failed known count told
    → ListTold what status o n same failed shown (length domains) domains
told_of_list known shown what count told domains status o n same failed shown_is count_is domains_are is =
    subst (λ s. ListTold what status o n same failed s (length domains) domains) shown_is
    (subst (λ k. ListTold what status o n same failed known k domains) count_is
    (subst (ListTold what status o n same failed known count) domains_are is))

-- the greater of two that are no more than 4
pub greater_known : (a b : ℕ) → a ≤ 4 → b ≤ 4 → greater a b ≤ 4
greater_known a b low lower = grind (arith, nat_tests)

-- ---- one piece

-- want of memory is a trouble of any machine, and no trouble has a status above 4
untold : (shown : Option Shown) (domain : ℕ) → IfSome shown (λ m. IsNoDomain m domain record { trouble = Memory; place = None })
untold None domain = tt
untold (Some m) domain = inr (refl, tt)

pub memory_trouble : (shown : Option Shown) (domain status : ℕ) → status ≡ 3 → IsTrouble shown domain status
memory_trouble shown domain status is = record { at = record { trouble = Memory; place = None }; is = untold shown domain; status_is = is }

pub found_trouble : (shown : Option Shown) (domain status : ℕ) (at : TroubleAt) → IfSome shown (λ m. IsNoDomain m domain at)
    → status ≡ trouble_status at.trouble → IsTrouble shown domain status
found_trouble shown domain status at is same = record { at = at; is = is; status_is = same }

pub trouble_known : (trouble : Trouble) → trouble_status trouble ≤ 4
trouble_known Memory = omega arith
trouble_known Unread = omega arith
trouble_known Short = omega arith
trouble_known NoRoot = omega arith
trouble_known TooMany = omega arith

-- nothing of a domain that couldn't be read
pub unread_out : (shown : Option Shown) (what : What) (headed : Bool) (domain status : ℕ) (o n : Option (List ℕ)) → n ≡ o
    → IsTrouble shown domain status → IsPieceOut shown what headed domain status (Appends o n)
unread_out shown what headed domain status o n same trouble =
    record {
      text = [];
      is = inr record { trouble = trouble; text = refl };
      written = subst (λ v. Appends o v []) (sym same) (none_out o);
    }

-- the piece of a domain that was read
read_piece : (shown : Option Shown) (what : What) (headed : Bool) (domain status : ℕ) (head : List ℕ) (told : Answer)
    → IsPrint shown what headed domain head told → status ≡ told.status
    → IsPiece shown what headed record { domain = domain; status = status; text = head ++ told.text }
read_piece shown what headed domain status head told print same =
    inl record { head = head; told = told; print = print; status = same; text = refl }

-- its heading and its text went out, its heading begins, or its text begins behind the heading
pub printed_out : (shown : Option Shown) (what : What) (headed : Bool) (domain status : ℕ) (head : List ℕ) (told : Answer) (o m n : Option (List ℕ))
    → IsPrint shown what headed domain head told → status ≡ told.status → Appends o m head → Appends m n told.text
    → IsPieceOut shown what headed domain status (Appends o n)
printed_out shown what headed domain status head told o m n print same first second =
    record {
      text = head ++ told.text;
      is = read_piece shown what headed domain status head told print same;
      written = Appends-more o m n head told.text first second;
    }

pub heading_begun : (shown : Option Shown) (what : What) (headed : Bool) (domain : ℕ) (head : List ℕ) (told : Answer) (o n : Option (List ℕ))
    → IsPrint shown what headed domain head told → AppendsBeginning o n head
    → (status : ℕ) × IsPieceOut shown what headed domain status (AppendsBeginning o n)
heading_begun shown what headed domain head told o n print begun = (
  told.status,
  record {
    text = head ++ told.text;
    is = read_piece shown what headed domain told.status head told print refl;
    written = begun_before o n head told.text begun;
  },
)

pub printed_begun : (shown : Option Shown) (what : What) (headed : Bool) (domain : ℕ) (head : List ℕ) (told : Answer) (o m n : Option (List ℕ))
    → IsPrint shown what headed domain head told → Appends o m head → AppendsBeginning m n told.text
    → (status : ℕ) × IsPieceOut shown what headed domain status (AppendsBeginning o n)
printed_begun shown what headed domain head told o m n print first begun = (
  told.status,
  record {
    text = head ++ told.text;
    is = read_piece shown what headed domain told.status head told print refl;
    written = begun_behind o m n head told.text first begun;
  },
)
