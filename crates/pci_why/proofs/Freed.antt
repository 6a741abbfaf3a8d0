-- What gets to the bus of a region, and no other region claims.
use Rattle.std.proofs.Common.{◌≡◌, ℕ, ◌+◌, ◌<◌, arith, List, [], ◌∷◌, map, Bool, true, false, ◌&&◌, ◌||◌, inl, inr, sym, ◌∙◌, ap, subst, refl}
use Rattle.std.specs.Prelude.{◌↔◌, ◌==◌, IsTrue, not}
use Rattle.std.specs.List.{Contains, list_all}
use Rattle.std.proofs.lemmas.Bool.{or_cases, or_from, ne_eqb, and_parts, and_from}
use Rattle.std.proofs.Math.Bool.{or-true, or-false}
use Rattle.pci_spec.specs.Slot.{Slot, same_slot}
use Rattle.pci_spec.specs.Window.{MemoryWindow, PrefetchWindow}
use Rattle.pci_spec.specs.System.{System, Function, Space, Io, Memory, IsAddress, window_claims}
use Rattle.pci_spec.specs.System as system
use Rattle.pci_spec.specs.Decoded.{record_of}
use Rattle.pci_spec.specs.Why.{Region}
use Rattle.pci_spec.specs.Fault.{address_in, named_region}
use Rattle.pci_spec.proofs.Members.{in_map_from}
use Rattle.pci_spec.proofs.Regions.{register_of-lt}
use Rattle.pci_base.specs.declared.range.Range.{Range}
use Rattle.pci_base.specs.Space.{kind_in}
use Rattle.pci_tree.specs.Outline.{Tree}
use Rattle.pci_tree.specs.Ranges.{Holds, Covers}
use Rattle.pci_tree.specs.Trees.{HasTree}
use Rattle.pci_tree.specs.declared.region.Region as outline
use Rattle.pci_tree.specs.Regions.{IsRegionOf}
use Rattle.judge_spec.specs.Given.{Given, palette_claims, is_cut}
use Rattle.judge_spec.specs.Claims.{Gets, IsPassedTo, passes, passes_else, forwards, forwards_else}
use Rattle.judge_spec.specs.Claims as untold
use Rattle.judge_spec.specs.Told.{ToldRange}
use Rattle.judge_spec.specs.ToldClaims.{Told, is_held, is_held_from, is_marked_held, may_share}
use Rattle.judge_spec.specs.Why.{IsTakenBeside}
use Rattle.pci_claims.specs.Claim.{Claimed}
use Rattle.pci_claims.specs.Gathered.{IsGathered, IsCommon}
use Rattle.pci_claims.specs.Reached.{AreReached, IsStartedReachTo}
use Rattle.pci_why.specs.Missed.{IsOutsideRange}
use Rattle.pci_why.specs.Free.{may_stand_at, IsAnsweredBeside, AreOfOthers, AreClaimsBeside, IsFreeFor}

-- ---- what a bridge passes it forwards

and_more : (window else_by palette : Bool) → IsTrue (window || else_by) → IsTrue (window || (else_by || palette))
and_more window else_by palette h = elim (or_cases window else_by h) [
  | inl on ↦ ap (λ b. b || (else_by || palette)) on
  | inr on ↦ ap (λ b. window || (b || palette)) on ∙ or-true window
]

forwards_of : (given : Given) (space : Space) (prefetch : Bool) (a : ℕ) (b : Function) → IsTrue (passes given space prefetch a b) → IsTrue (forwards given space a b)
forwards_of given Io prefetch a b h = and_more (system.passes Io prefetch a b && not (is_cut given Io a b.slot)) (passes_else given Io a b) (palette_claims given Io a b) h
forwards_of given Memory prefetch a b h =
    let by_memory = window_claims b MemoryWindow a in
    let by_prefetch = window_claims b PrefetchWindow a in
    let more = forwards_else given Memory a b in
    elim (or_cases ((by_memory || (prefetch && by_prefetch)) && true) (passes_else given Memory a b) h) [
      | inl window ↦ elim (or_cases by_memory (prefetch && by_prefetch) (and_parts (by_memory || (prefetch && by_prefetch)) true window).0) [
        | inl memory ↦ ap (λ x. ((x || by_prefetch) && true) || more) memory
        | inr both ↦ ap (λ x. ((by_memory || x) && true) || more) (and_parts prefetch by_prefetch both).1 ∙ ap (λ x. (x && true) || more) (or-true by_memory)
      ]
      | inr else_by ↦ ap (λ x. ((by_memory || by_prefetch) && true) || (x || palette_claims given Memory a b)) else_by ∙ or-true ((by_memory || by_prefetch) && true)
    ]

all_forward : (given : Given) (space : Space) (prefetch : Bool) (a : ℕ) (bridges : List Function) → IsTrue (list_all (passes given space prefetch a) bridges) → IsTrue (list_all (forwards given space a) bridges)
all_forward given space prefetch a [] h = refl
all_forward given space prefetch a (b ∷ bridges) h =
    let both = and_parts (passes given space prefetch a b) (list_all (passes given space prefetch a) bridges) h in
    and_from (forwards given space a b) (list_all (forwards given space a) bridges) (forwards_of given space prefetch a b both.0) (all_forward given space prefetch a bridges both.1)

gets_of : (given : Given) (roots : List ℕ) (s : System) (space : Space) (prefetch : Bool) (a bus : ℕ) → IsPassedTo given roots s (address_in space a) prefetch bus → Gets given roots s space a bus
gets_of given roots s space prefetch a bus (root, is_root, sent, bridges, leads, pass) = (root, is_root, sent, bridges, leads, all_forward given space prefetch a bridges pass)

-- ---- what gets there

pub reach_of_kind : (given : Given) (roots : List ℕ) (s : System) (space : Space) (prefetch : Bool) (bus : ℕ) (out : List Range)
    → IsStartedReachTo given roots s (kind_in space prefetch) bus out → AreReached space (λ a. IsPassedTo given roots s (address_in space a) prefetch bus) out
reach_of_kind given roots s Io prefetch bus out is = record { canonical = is.canonical; exact = is.exact }
reach_of_kind given roots s Memory false bus out is = record { canonical = is.canonical; exact = is.exact }
reach_of_kind given roots s Memory true bus out is = record { canonical = is.canonical; exact = is.exact }

-- the slot of a function is one of the tree's
pub never_unlisted : (t : Tree) (s : System) → HasTree t s → (f : Function) (slot : Slot) → Contains s f → slot ≡ f.slot → (Contains (map (λ r. r.slot) t.records) slot → ⊥) → ⊥
never_unlisted t s tree f slot listed at none =
    none (subst (λ records. Contains (map (λ x. x.slot) records) slot) tree.records.same
    (subst (Contains (map (λ x. x.slot) (map record_of s))) (sym at) (in_map_from (λ x. x.slot) (map record_of s) (record_of f) (in_map_from record_of s f listed))))

-- ---- what is left of it

-- a region's register is an offset
pub region_low : (f : Function) (part : system.Part) (space : Space) (q : outline.Region) → IsRegionOf f part space q → q.reg < 256
region_low f part space q is =
    let some = is.some in
    let low = register_of-lt f part ((is.claims q.first).0 (omega arith, some)).there in
    let named = is.register in
    omega (arith, low, named)

-- no register of a function is that of a held range
held_before : (first : ℕ) (ranges : List ToldRange) (register : ℕ) → register < first → is_held_from first ranges register ≡ false
held_before first [] register less = refl
held_before first (r ∷ ranges) register less =
    or_from ((first == register) && is_marked_held r.mark) (is_held_from (first + 1) ranges register)
    (ap (λ b. b && is_marked_held r.mark) (ne_eqb first register (λ e. omega (arith, e, less))))
    (held_before (first + 1) ranges register (omega (arith, less)))

never_held : (told : Told) (register : ℕ) → register < 256 → is_held told register ≡ false
never_held told register low = held_before 256 told.ranges register low

-- the region of a function may share an address as its claim tells
shared_as : (told : Told) (slot : Slot) (register : ℕ) (c : Claimed) → register < 256 → c.held ≡ is_held told c.register → may_share told slot register c.slot c.register ≡ may_stand_at slot register c
shared_as told slot register c low held =
    ap (λ b. (untold.may_share slot register c.slot c.register || (b && (is_held told c.register || same_slot slot c.slot))) || (is_held told c.register && (b || same_slot c.slot slot))) (never_held told register low)
    ∙ ap (λ b. b || (is_held told c.register && same_slot c.slot slot)) (or-false (untold.may_share slot register c.slot c.register))
    ∙ ap (λ b. untold.may_share slot register c.slot c.register || (b && same_slot c.slot slot)) (sym held)

module _ (told : Told) (given : Given) (roots : List ℕ) (s : System) (q : Region) (low : q.register < 256) (claims : List Claimed) (beside : AreClaimsBeside told given roots s q.slot.bus q.space claims) where
  taken_of : (a : ℕ) → IsAnsweredBeside claims q.slot q.register a → IsTakenBeside told given roots s q a
  taken_of a h =
      let b = beside.each h.c a h.has h.covered in
      record {
        by = named_region h.c.slot h.c.register;
        beside = b.beside;
        other = h.other.0;
        apart = shared_as told q.slot q.register h.c low (beside.held h.c h.has) ∙ h.other.1;
        claims = b.claims;
      }

  answered_of : (a : ℕ) → Gets given roots s q.space a q.slot.bus → IsTakenBeside told given roots s q a → IsAnsweredBeside claims q.slot q.register a
  answered_of a gets h =
      let of = beside.complete h.by.slot h.by.register a gets record { beside = h.beside; claims = h.claims } in
      record {
        c = of.c;
        has = of.has;
        other = (
          λ same. h.other (sym of.slot_is ∙ same.0, sym of.register_is ∙ same.1),
          sym (shared_as told q.slot q.register of.c low (beside.held of.c of.has))
              ∙ ap (λ (x : Slot). may_share told q.slot q.register x of.c.register) of.slot_is ∙ ap (λ n. may_share told q.slot q.register h.by.slot n) of.register_is ∙ h.apart,
        );
        covered = of.covered;
      }

  pub free_exact : (reach others taken left out : List Range) (whole : Range) → AreReached q.space (λ a. IsPassedTo given roots s (address_in q.space a) q.prefetchable q.slot.bus) reach → AreOfOthers claims q.slot q.register others
      → IsGathered others taken → ((a : ℕ) → Holds whole a ↔ IsAddress q.space a) → IsOutsideRange whole taken left → IsCommon reach left out → (a : ℕ) → Covers out a ↔ IsFreeFor told given roots s q a
  free_exact reach others taken left out whole gets are gathers all outside both a = (
    λ (h : Covers out a). (
        let (in_reach, in_left) = (both.exact a).0 h in
        let passed = (gets.exact a).0 in_reach in
        record {
          address = passed.0;
          reached = passed.1;
          free = λ claimed. ((outside.exact a).0 in_left).1
              ((gathers.exact a).1 ((are.exact a).1 (answered_of a (gets_of given roots s q.space q.prefetchable a q.slot.bus passed.1) claimed)));
        }),
    λ (h : IsFreeFor told given roots s q a). (both.exact a).1 (
      (gets.exact a).1 (h.address, h.reached),
      (outside.exact a).1 ((all a).1 h.address, λ covered. h.free (taken_of a ((are.exact a).0 ((gathers.exact a).0 covered)))),
    ),
  )
