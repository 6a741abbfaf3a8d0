-- A beginning of a list that is joined from pieces: how far it comes in each piece.
use Rattle.std.proofs.Common.{◌≡◌, ℕ, ◌<◌, ◌⊎◌, inl, inr, List, [], ◌∷◌, ◌++◌, refl, Bool, true, false, cond, sym, ◌∙◌, ap, subst}
use Rattle.std.specs.Bool.{◌==◌}
use Rattle.std.specs.List.{AllPairs, Contains, flat_map}
use Rattle.std.proofs.lemmas.Bool.{both_ways}
use Rattle.std.proofs.lemmas.List.{append-nil}
use Rattle.std.proofs.lemmas.List.Elements.{Contains-append_cases, Contains-append_left, Contains-append_right}
use Rattle.pci_spec.specs.Number.{number_at}
use Rattle.pci_spec.specs.Slot.{Slot, same_slot, slot_number}
use Rattle.pci_spec.specs.System.{System, Function}
use Rattle.pci_spec.specs.Machine.{Write, write_function}
use Rattle.pci_spec.proofs.Members.{in_nil, in_cons_cases, in_head, in_tail, IsInPiece, in_flat_map_to, pairs_nil, pairs_cons, pairs_head, pairs_tail, pairs_append}
use Rattle.plan_spec.specs.Planning.PlanWrites.{Change, register_write}
use Rattle.plan_spec.proofs.Planning.Settled.{function_after, function_parts}
use Rattle.plan_spec.proofs.Planning.Writes.{other_number, write_elsewhere}
use Rattle.settle_laws.proofs.Pieces.{Lower}

-- ---- lists

abbrev head_or : {X : Type 0} → X → List X → X
head_or d [] = d
head_or d (x ∷ xs) = x

abbrev after_head : {X : Type 0} → List X → List X
after_head [] = []
after_head (x ∷ xs) = xs

abbrev has_head : {X : Type 0} → List X → Bool
has_head [] = false
has_head (x ∷ xs) = true

no_head : {X : Type 0} (x : X) (xs : List X) → x ∷ xs ≡ [] → ⊥
no_head x xs e = both_ways false refl (sym (ap has_head e))

-- a beginning of two lists joined ends in the first, or in the second
pub record EndsInFirst {X : Type 0} (a p : List X) : Type 0 where
  pub left : List X
  pub split : p ++ left ≡ a

pub record EndsInSecond {X : Type 0} (a b p rest : List X) : Type 0 where
  pub part : List X
  pub is : p ≡ a ++ part
  pub split : part ++ rest ≡ b

pub split_append : {X : Type 0} (a b p rest : List X) → p ++ rest ≡ a ++ b → EndsInFirst a p ⊎ EndsInSecond a b p rest
split_append [] b p rest e = inr record { part = p; is = refl; split = e }
split_append (x ∷ a) b [] rest e = inl record { left = x ∷ a; split = refl }
split_append (x ∷ a) b (y ∷ p) rest e =
    let first : y ≡ x = ap (head_or x) e in
    elim (split_append a b p rest (ap after_head e)) [
      | inl ends ↦ inl record { left = ends.left; split = ap (λ zs. y ∷ zs) ends.split ∙ ap (λ z. z ∷ a) first }
      | inr ends ↦ inr record { part = ends.part; is = ap (λ zs. y ∷ zs) ends.is ∙ ap (λ z. z ∷ (a ++ ends.part)) first; split = ends.split }
    ]

second_same : {X : Type 0} (a b c : List X) → a ++ b ≡ a ++ c → b ≡ c
second_same [] b c e = e
second_same (x ∷ a) b c e = second_same a b c (ap after_head e)

-- nothing is joined from two that aren't empty
nothing_left : {X : Type 0} (p rest : List X) → p ++ rest ≡ [] → (p ≡ []) × (rest ≡ [])
nothing_left [] rest e = (refl, e)
nothing_left (x ∷ p) rest e = absurd (no_head x (p ++ rest) e)

-- a list of one is begun with all of it, or with nothing
one_or_none : {X : Type 0} (w : X) (p rest : List X) → p ++ rest ≡ w ∷ [] → ((p ≡ []) × (rest ≡ w ∷ [])) ⊎ ((p ≡ w ∷ []) × (rest ≡ []))
one_or_none w [] rest e = inl (refl, e)
one_or_none w (y ∷ p) rest e =
    let none = nothing_left p rest (ap after_head e) in
    inr (ap (λ zs. y ∷ zs) none.0 ∙ ap (λ z. z ∷ []) (ap (head_or w) e), none.1)

-- ---- registers of a change that are written, and those that aren't yet

pub record IsRegisters (c : Change) (registers : List (ℕ × ℕ)) (part more : List Write) : Type 0 where
  pub made : List (ℕ × ℕ)
  pub waiting : List (ℕ × ℕ)
  pub split : made ++ waiting ≡ registers
  pub is : part ≡ flat_map (register_write c) made
  pub still : more ≡ flat_map (register_write c) waiting

pub choice_or_none : {X : Type 0} (b : Bool) (w : X) (p rest : List X) → p ++ rest ≡ cond b [] (w ∷ []) → ((p ≡ []) × (rest ≡ cond b [] (w ∷ []))) ⊎ ((p ≡ cond b [] (w ∷ [])) × (rest ≡ []))
choice_or_none true w p rest e = inl (nothing_left p rest e)
choice_or_none false w p rest e = one_or_none w p rest e

pub registers_split : (c : Change) (registers : List (ℕ × ℕ)) (part more : List Write) → part ++ more ≡ flat_map (register_write c) registers → IsRegisters c registers part more
registers_split c [] part more e = let none = nothing_left part more e in record { made = []; waiting = []; split = refl; is = none.0; still = none.1 }
registers_split c (r ∷ registers) part more e = elim (split_append (register_write c r) (flat_map (register_write c) registers) part more e) [
  | inr ends ↦
      let k : IsRegisters c registers ends.part more = registers_split c registers ends.part more ends.split in
      record { made = r ∷ k.made; waiting = k.waiting; split = ap (λ rs. r ∷ rs) k.split; is = ends.is ∙ ap (λ ws. register_write c r ++ ws) k.is; still = k.still }
  | inl ends ↦ elim (choice_or_none (number_at c.new.image r.0 r.1 == number_at c.old.image r.0 r.1) _ part ends.left ends.split) [
    | inl none ↦ record {
      made = [];
      waiting = r ∷ registers;
      split = refl;
      is = none.0;
      still = sym (ap (λ ws. ws ++ more) none.0) ∙ e;
    }
    | inr whole ↦ record {
      made = r ∷ [];
      waiting = registers;
      split = refl;
      is = whole.0 ∙ sym (append-nil (register_write c r));
      still = second_same (register_write c r) more (flat_map (register_write c) registers) (sym (ap (λ ws. ws ++ more) whole.0) ∙ e);
    }
  ]
]

-- ---- writes to functions in turn

abbrev pub Unlike : Function → Function → Type 0
Unlike f g = slot_number f.slot ≡ slot_number g.slot → ⊥

-- writes to other slots leave a function
pub others_leave : (h : Function) (writes : List Write) → ((x : Write) → Contains writes x → same_slot h.slot x.slot ≡ false) → function_after h writes ≡ h
others_leave h [] other = refl
others_leave h (w ∷ writes) other =
    ap (λ g. function_after g writes) (write_elsewhere w h (other w (in_head w writes)))
    ∙ others_leave h writes (λ x has. other x (in_tail w writes x has))

slot_written : (w : Write) (h : Function) → (write_function w h).slot ≡ h.slot
slot_written w h = refl

pub slot_after : (h : Function) (writes : List Write) → (function_after h writes).slot ≡ h.slot
slot_after h [] = refl
slot_after h (w ∷ writes) = slot_after (write_function w h) writes ∙ slot_written w h

-- how far a beginning comes in the writes to one function
pub record IsReached (whole p : List Write) (slot : Slot) : Type 0 where
  pub part : List Write
  pub more : List Write
  pub split : part ++ more ≡ whole
  pub same : (h : Function) → h.slot ≡ slot → function_after h p ≡ function_after h part

module _ (piece : Function → List Write) where
  abbrev pub Own : System → Type 0
  Own xs = (f : Function) → Contains xs f → (x : Write) → Contains (piece f) x → x.slot ≡ f.slot

  own_tail : (f : Function) (xs : System) → Own (f ∷ xs) → Own xs
  own_tail f xs own g listed = own g (in_tail f xs g listed)

  other_slot : (f g h : Function) → Unlike f g → h.slot ≡ g.slot → (x : Write) → x.slot ≡ f.slot → same_slot h.slot x.slot ≡ false
  other_slot f g h unlike at x own = other_number h.slot x.slot (λ e. unlike (ap slot_number (sym own) ∙ sym e ∙ ap slot_number at))

  -- a function that isn't among those written
  pub pieces_leave : (xs : System) (h : Function) → Own xs → ((f : Function) → Contains xs f → Unlike f h) → (p : List Write) → ((x : Write) → Contains p x → Contains (flat_map piece xs) x)
      → function_after h p ≡ h
  pieces_leave xs h own unlike p sub = others_leave h p (λ x has.
      let at : IsInPiece piece xs x = in_flat_map_to piece xs x (sub x has) in
      other_slot at.of h h (unlike at.of at.has) refl x (own at.of at.has x at.piece))

  piece_leaves : (f g h : Function) → Unlike f g → h.slot ≡ g.slot → ((x : Write) → Contains (piece f) x → x.slot ≡ f.slot) → (p : List Write) → ((x : Write) → Contains p x → Contains (piece f) x)
      → function_after h p ≡ h
  piece_leaves f g h unlike at own p sub = others_leave h p (λ x has. other_slot f g h unlike at x (own x (sub x has)))

  in_first : (a p left : List Write) → p ++ left ≡ a → (x : Write) → Contains p x → Contains a x
  in_first a p left split x has = subst (λ ws. Contains ws x) split (Contains-append_left p left x has)

  module _ (R : Function → Function → Type 0) (unlike : (f g : Function) → R f g → Unlike f g) where
    turned : (f g : Function) → R f g → Unlike g f
    turned f g r e = unlike f g r (sym e)

    pub reached : (xs : System) → AllPairs R xs → Own xs → (p rest : List Write) → p ++ rest ≡ flat_map piece xs → (f : Function) → Contains xs f → IsReached (piece f) p f.slot
    reached [] pairs own p rest e f listed = absurd (in_nil f listed)
    reached (x ∷ xs) pairs own p rest e f listed =
        let tail_unlike = λ (g : Function) (in_g : Contains xs g). unlike x g (pairs_head R x xs g pairs in_g) in
        elim (split_append (piece x) (flat_map piece xs) p rest e) [
          | inl ends ↦ elim (in_cons_cases x xs f listed) [
            | inl is ↦ record { part = p; more = ends.left; split = ends.split ∙ ap piece is; same = λ h at. refl }
            | inr later ↦ record {
              part = [];
              more = piece f;
              split = refl;
              same = λ h at. piece_leaves x f h (tail_unlike f later) at (own x (in_head x xs)) p (in_first (piece x) p ends.left ends.split);
            }
          ]
          | inr ends ↦ elim (in_cons_cases x xs f listed) [
            | inl is ↦ record {
              part = piece x;
              more = [];
              split = append-nil (piece x) ∙ ap piece is;
              same = λ h at.
                  ap (function_after h) ends.is ∙ function_parts h (piece x) ends.part
                  ∙ pieces_leave xs (function_after h (piece x)) (own_tail x xs own)
                  (λ g in_g e. tail_unlike g in_g (ap (λ (k : Function). slot_number k.slot) is ∙ sym (ap slot_number at) ∙ sym (ap slot_number (slot_after h (piece x))) ∙ sym e))
                  ends.part (in_first (flat_map piece xs) ends.part rest ends.split);
            }
            | inr later ↦
                let r : IsReached (piece f) ends.part f.slot = reached xs (pairs_tail R x xs pairs) (own_tail x xs own) ends.part rest ends.split f later in
                record {
                  part = r.part;
                  more = r.more;
                  split = r.split;
                  same = λ h at.
                      ap (function_after h) ends.is ∙ function_parts h (piece x) ends.part
                      ∙ ap (λ k. function_after k ends.part) (piece_leaves x f h (tail_unlike f later) at (own x (in_head x xs)) (piece x) (λ y has. has))
                      ∙ r.same h at;
                }
          ]
        ]

    -- once all are written, each function is by its own writes
    pub whole : (xs : System) → AllPairs R xs → Own xs → (f : Function) → Contains xs f → (h : Function) → h.slot ≡ f.slot → function_after h (flat_map piece xs) ≡ function_after h (piece f)
    whole [] pairs own f listed h at = absurd (in_nil f listed)
    whole (x ∷ xs) pairs own f listed h at =
        let tail_unlike = λ (g : Function) (in_g : Contains xs g). unlike x g (pairs_head R x xs g pairs in_g) in
        function_parts h (piece x) (flat_map piece xs)
        ∙ elim (in_cons_cases x xs f listed) [
          | inl is ↦
              pieces_leave xs (function_after h (piece x)) (own_tail x xs own)
              (λ g in_g e. tail_unlike g in_g (ap (λ (k : Function). slot_number k.slot) is ∙ sym (ap slot_number at) ∙ sym (ap slot_number (slot_after h (piece x))) ∙ sym e))
              (flat_map piece xs) (λ y has. has)
              ∙ ap (λ k. function_after h (piece k)) is
          | inr later ↦
              ap (λ k. function_after k (flat_map piece xs)) (piece_leaves x f h (tail_unlike f later) at (own x (in_head x xs)) (piece x) (λ y has. has))
              ∙ whole xs (pairs_tail R x xs pairs) (own_tail x xs own) f later h at
        ]

    -- of two functions the earlier is done, or the later is untouched
    pub in_turn : (xs : System) → AllPairs R xs → Own xs → (p rest : List Write) → p ++ rest ≡ flat_map piece xs → (f g : Function) → Contains xs f → Contains xs g → Unlike f g → (R g f → ⊥)
        → ((h : Function) → h.slot ≡ f.slot → function_after h p ≡ function_after h (piece f)) ⊎ ((h : Function) → h.slot ≡ g.slot → function_after h p ≡ h)
    in_turn [] pairs own p rest e f g in_f in_g differ before = absurd (in_nil f in_f)
    in_turn (x ∷ xs) pairs own p rest e f g in_f in_g differ before =
        let tail_unlike = λ (k : Function) (in_k : Contains xs k). unlike x k (pairs_head R x xs k pairs in_k) in
        elim (in_cons_cases x xs g in_g) [
          | inl is_g ↦ elim (in_cons_cases x xs f in_f) [
            | inl is_f ↦ absurd (differ (ap (λ (k : Function). slot_number k.slot) (sym is_f ∙ is_g)))
            | inr f_later ↦ absurd (before (subst (λ k. R k f) is_g (pairs_head R x xs f pairs f_later)))
          ]
          | inr g_later ↦ elim (split_append (piece x) (flat_map piece xs) p rest e) [
            | inl ends ↦ inr (λ h at. piece_leaves x g h (tail_unlike g g_later) at (own x (in_head x xs)) p (in_first (piece x) p ends.left ends.split))
            | inr ends ↦ elim (in_cons_cases x xs f in_f) [
              | inl is_f ↦ inl (λ h at.
                  ap (function_after h) ends.is ∙ function_parts h (piece x) ends.part
                  ∙ pieces_leave xs (function_after h (piece x)) (own_tail x xs own)
                  (λ k in_k e. tail_unlike k in_k (ap (λ (k : Function). slot_number k.slot) is_f ∙ sym (ap slot_number at) ∙ sym (ap slot_number (slot_after h (piece x))) ∙ sym e))
                  ends.part (in_first (flat_map piece xs) ends.part rest ends.split)
                  ∙ ap (λ k. function_after h (piece k)) is_f)
              | inr f_later ↦ elim (in_turn xs (pairs_tail R x xs pairs) (own_tail x xs own) ends.part rest ends.split f g f_later g_later differ before) [
                | inl done ↦ inl (λ h at.
                    ap (function_after h) ends.is ∙ function_parts h (piece x) ends.part
                    ∙ ap (λ k. function_after k ends.part) (piece_leaves x f h (tail_unlike f f_later) at (own x (in_head x xs)) (piece x) (λ y has. has))
                    ∙ done h at)
                | inr waits ↦ inr (λ h at.
                    ap (function_after h) ends.is ∙ function_parts h (piece x) ends.part
                    ∙ ap (λ k. function_after k ends.part) (piece_leaves x g h (tail_unlike g g_later) at (own x (in_head x xs)) (piece x) (λ y has. has))
                    ∙ waits h at)
              ]
            ]
          ]
        ]

-- ---- a list the other way round

abbrev pub backwards : System → System
backwards [] = []
backwards (f ∷ s) = backwards s ++ f ∷ []

pub in_backwards : (s : System) (f : Function) → Contains s f → Contains (backwards s) f
in_backwards [] f listed = absurd (in_nil f listed)
in_backwards (g ∷ s) f listed = elim (in_cons_cases g s f listed) [
  | inl is ↦ Contains-append_right (backwards s) (g ∷ []) f (subst (λ k. Contains (k ∷ []) f) (sym is) (in_head f []))
  | inr later ↦ Contains-append_left (backwards s) (g ∷ []) f (in_backwards s f later)
]

pub from_backwards : (s : System) (f : Function) → Contains (backwards s) f → Contains s f
from_backwards [] f has = absurd (in_nil f has)
from_backwards (g ∷ s) f has = elim (Contains-append_cases (backwards s) (g ∷ []) f has) [
  | inl later ↦ in_tail g s f (from_backwards s f later)
  | inr here ↦ elim (in_cons_cases g [] f here) [
    | inl is ↦ subst (λ k. Contains (k ∷ s) f) (sym is) (in_head f s)
    | inr none ↦ absurd (in_nil f none)
  ]
]

abbrev pub Higher : Function → Function → Type 0
Higher f g = slot_number g.slot < slot_number f.slot

pub backwards_falls : (s : System) → AllPairs Lower s → AllPairs Higher (backwards s)
backwards_falls [] pairs = pairs_nil Higher
backwards_falls (f ∷ s) pairs =
    pairs_append Higher (backwards s) (f ∷ []) (backwards_falls s (pairs_tail Lower f s pairs))
    (pairs_cons Higher f [] (λ g none. absurd (in_nil g none)) (pairs_nil Higher))
    (λ g k in_g in_k. elim (in_cons_cases f [] k in_k) [
      | inl is ↦ subst (λ x. Higher g x) is (pairs_head Lower f s g pairs (from_backwards s g in_g))
      | inr none ↦ absurd (in_nil k none)
    ])
