-- The board is single while a bridge gets a bus.
use Rattle.std.proofs.Common.{◌≡◌, ℕ, ◌+◌, ◌≤◌, inl, inr, Bool, true, arith, refl, ◌∙◌, List, Result}
use Rattle.std.specs.Result.{IsErr}
use Rattle.pci_spec.specs.Slot.{Slot}
use Rattle.pci_number.specs.Board.{Nodes, Node, Board, is_type_1, HasOneAnswer}
use Rattle.pci_number.specs.Walk.{all_after, is_walkable}
use Rattle.pci_number.specs.Room.{shows}
use Rattle.pci_number.proofs.Roomy.{shown}
use Rattle.pci_number.specs.Seen.{View, code, IsSeen, IsClosed}
use Rattle.pci_number.specs.Steps.{IsNumberPut, IsAlike, IsShownAt, IsHushed}
use Rattle.pci_number.specs.Less.{IsLessStep}
use Rattle.pci_number.specs.Single.{IsApart, IsShowStood, IsOpenStood}
use Rattle.pci_number.specs.declared.stop.Stop.{Stop}
use Rattle.pci_number.specs.Stood.{Adds, Ends, AddsSteps, EndsSteps, IsOneMore, board_moment}
use Rattle.pci_number.proofs.Bytes.{other_byte, alike_primary, alike_secondary, alike_subordinate, alike_then, shows_from}
use Rattle.pci_number.proofs.Passing.{OfBus}
use Rattle.pci_number.proofs.Opening.{shows_another, open_hushed}
use Rattle.pci_number.proofs.Views.{inside}
use Rattle.pci_number.proofs.Apart.{shut_from, closed_spread, spread_lead, single_with}
use Rattle.pci_number.proofs.Steady.{steps_add, stops_end}
use Rattle.pci_number.proofs.Stood.{adds_none, adds_then, adds_one, adds_more, ends_one, ends_then, ended}

-- ---- primary, secondary, subordinate

abbrev pub IsShowOk : Board → Slot → ℕ → List Board → List Board → Type 0
IsShowOk before slot bus old new = (v : View) (high last : ℕ) (image : List ℕ) (behind others : Nodes) → before ≡ v.fill (Node slot.device slot.function image behind others) → IsSeen v slot.bus (code slot) high last → all_after slot.device slot.function others ≡ true → is_type_1 image ≡ true → shows image 0 0 0 ≡ true → IsClosed others → high + 1 ≤ bus → bus ≤ last → IsApart v (Node slot.device slot.function image behind others) high last → Adds HasOneAnswer old new

pub show_stood_first : {T E : Type 0} → (before first : Board) (slot : Slot) (bus : ℕ) (old one : List Board) (r : Result T E) → IsErr r → IsOneMore (board_moment before old) (board_moment first one) → IsShowStood (board_moment before old) slot bus r one
show_stood_first before first slot bus old one r err more = λ v high last image behind others is seen alone bridge shut closed over within apart.
    ended HasOneAnswer r old one err (ends_one HasOneAnswer before old old first one (adds_none HasOneAnswer old) more)

module _ (before first second third : Board) (slot : Slot) (n bus : ℕ) (old one two three : List Board) (p : IsNumberPut before slot 0x18 n first) (p_stood : IsOneMore (board_moment before old) (board_moment first one)) where
  first_stood : IsShowOk before slot bus old one
  first_stood = λ v high last image behind others is seen alone bridge shut closed over within apart.
      let a = p v high last image behind others is seen alone in
      let show = shown image 0 0 0 shut in
      let numbers : shows a.0 n 0 0 ≡ true = shows_from a.0 n 0 0 a.3 (other_byte 0x18 image a.0 a.2 0x19 (λ e. cc e) ∙ show.secondary) (other_byte 0x18 image a.0 a.2 0x1a (λ e. cc e) ∙ show.subordinate) in
      adds_one HasOneAnswer before old first one p_stood
      (single_with v high last slot.device slot.function image a.0 behind behind others bridge (alike_primary image a.0 a.2) refl apart
      (inl (shut_from a.0 n numbers, closed_spread high last others closed)) first a.1)

  pub show_stood_second : {T E : Type 0} → (r : Result T E) → IsErr r → IsOneMore (board_moment first one) (board_moment second two) → IsShowStood (board_moment before old) slot bus r two
  show_stood_second r err more = λ v high last image behind others is seen alone bridge shut closed over within apart.
      ended HasOneAnswer r old two err (ends_one HasOneAnswer first old one second two (first_stood v high last image behind others is seen alone bridge shut closed over within apart) more)

  module _ (q : IsNumberPut first slot 0x19 bus second) (q_stood : IsOneMore (board_moment first one) (board_moment second two)) where
    second_stood : IsShowOk before slot bus old two
    second_stood = λ v high last image behind others is seen alone bridge shut closed over within apart.
        let a = p v high last image behind others is seen alone in
        let b = q v high last a.0 behind others a.1 seen alone in
        let show = shown image 0 0 0 shut in
        let numbers : shows b.0 n bus 0 ≡ true = shows_from b.0 n bus 0 (other_byte 0x19 a.0 b.0 b.2 0x18 (λ e. cc e) ∙ a.3) b.3 (other_byte 0x19 a.0 b.0 b.2 0x1a (λ e. cc e) ∙ other_byte 0x18 image a.0 a.2 0x1a (λ e. cc e) ∙ show.subordinate) in
        adds_more HasOneAnswer first old one second two (first_stood v high last image behind others is seen alone bridge shut closed over within apart) q_stood
        (single_with v high last slot.device slot.function image b.0 behind behind others bridge (alike_then image a.0 b.0 (alike_primary image a.0 a.2) (alike_secondary a.0 b.0 b.2)) refl apart
        (spread_lead high last n bus 0 slot.device slot.function b.0 behind others numbers (omega (arith, over)) within (omega arith) (inl (omega arith)) (closed_spread _ last others closed)) second b.1)

    pub show_stood_third : {T E : Type 0} → (r : Result T E) → IsErr r → IsOneMore (board_moment second two) (board_moment third three) → IsShowStood (board_moment before old) slot bus r three
    show_stood_third r err more = λ v high last image behind others is seen alone bridge shut closed over within apart.
        ended HasOneAnswer r old three err (ends_one HasOneAnswer second old two third three (second_stood v high last image behind others is seen alone bridge shut closed over within apart) more)

    pub show_stood : IsNumberPut second slot 0x1a bus third → IsOneMore (board_moment second two) (board_moment third three) → IsShowOk before slot bus old three
    show_stood t t_stood = λ v high last image behind others is seen alone bridge shut closed over within apart.
        let a = p v high last image behind others is seen alone in
        let b = q v high last a.0 behind others a.1 seen alone in
        let d = t v high last b.0 behind others b.1 seen alone in
        let numbers : shows d.0 n bus bus ≡ true = shows_from d.0 n bus bus (other_byte 0x1a b.0 d.0 d.2 0x18 (λ e. cc e) ∙ other_byte 0x19 a.0 b.0 b.2 0x18 (λ e. cc e) ∙ a.3) (other_byte 0x1a b.0 d.0 d.2 0x19 (λ e. cc e) ∙ b.3) d.3 in
        adds_more HasOneAnswer second old two third three (second_stood v high last image behind others is seen alone bridge shut closed over within apart) t_stood
        (single_with v high last slot.device slot.function image d.0 behind behind others bridge (alike_then image a.0 d.0 (alike_primary image a.0 a.2) (alike_then a.0 b.0 d.0 (alike_secondary a.0 b.0 b.2) (alike_subordinate b.0 d.0 d.2))) refl apart
        (spread_lead high last n bus bus slot.device slot.function d.0 behind others numbers (omega (arith, over)) within within (inl (omega arith)) (closed_spread _ last others closed)) third d.1)

-- ---- then the bridges on that bus are closed, and what comes next is behind it

-- said of a bridge that gets a bus, with which the board is single
abbrev pub OfSingle : Board → Slot → ℕ → ℕ → Type 0 → Type 0
OfSingle before slot bus last P = (v : View) (high : ℕ) (image : List ℕ) (behind others : Nodes) → before ≡ v.fill (Node slot.device slot.function image behind others) → IsSeen v slot.bus (code slot) high last → all_after slot.device slot.function others ≡ true → is_type_1 image ≡ true → shows image 0 0 0 ≡ true → IsClosed others → is_walkable behind ≡ true → high + 1 ≤ bus → bus ≤ last → IsApart v (Node slot.device slot.function image behind others) high last → P

-- such boards stood meanwhile, where that was done and where it stopped
abbrev pub IsOpenOk : Board → Slot → ℕ → ℕ → List Board → List Board → Type 0
IsOpenOk before slot bus last old new = OfSingle before slot bus last (Adds HasOneAnswer old new)

abbrev pub IsOpenEnd : Board → Slot → ℕ → ℕ → List Board → List Board → Type 0
IsOpenEnd before slot bus last old new = OfSingle before slot bus last (Ends HasOneAnswer old new)

abbrev pub IsHushOk : Board → ℕ → List Board → Board → List Board → Type 0
IsHushOk before bus old now new = OfBus before bus (λ v nodes. AddsSteps (IsLessStep v nodes) (board_moment before old) (board_moment now new))

abbrev pub IsHushEnd : Board → ℕ → List Board → List Board → Type 0
IsHushEnd before bus old new = OfBus before bus (λ v nodes. EndsSteps (IsLessStep v nodes) (board_moment before old) new)

-- whatever numbers are behind a bridge that leads to one bus
less_is_single : (v : View) (high last : ℕ) (slot : Slot) (bus : ℕ) (image new : List ℕ) (behind others : Nodes) → is_type_1 image ≡ true → IsAlike image new → shows new slot.bus bus bus ≡ true → IsClosed others → high + 1 ≤ bus → bus ≤ last → IsApart v (Node slot.device slot.function image behind others) high last → (was b : Board) → IsLessStep (inside v slot.device slot.function new others) behind was b → HasOneAnswer b
less_is_single v high last slot bus image new behind others bridge alike numbers closed over within apart was b step =
    single_with v high last slot.device slot.function image new behind step.to others bridge alike (step.less.same ∙ step.start.same) apart
    (spread_lead high last slot.bus bus bus slot.device slot.function new step.to others numbers (omega (arith, over)) within within (inl (omega arith)) (closed_spread _ last others closed)) b step.is

module _ (before first second third : Board) (slot : Slot) (bus last : ℕ) (old one two three : List Board) (show : IsShownAt before slot slot.bus bus bus first) (stood : IsShowOk before slot bus old one) where
  pub open_stood_second : (r : Result Bool Stop) → IsErr r → IsHushEnd first bus one two → IsOpenStood (board_moment before old) slot bus last r two
  open_stood_second r err hush = λ v high image behind others is seen alone bridge shut closed walkable over within apart.
      let s = show v high last image behind others is seen alone in
      let less = hush (inside v slot.device slot.function s.0 others) bus bus behind s.1 (open_hushed v high last slot bus s.0 others seen (s.2.kind ∙ bridge) s.3 over within closed) walkable in
      ended HasOneAnswer r old two err (ends_then HasOneAnswer old one two (stood v high last image behind others is seen alone bridge shut closed over within apart)
      (stops_end (IsLessStep (inside v slot.device slot.function s.0 others) behind) HasOneAnswer (less_is_single v high last slot bus image s.0 behind others bridge s.2 s.3 closed over within apart) first one two less))

  module _ (hushing : IsHushOk first bus one second two) where
    pub open_stood_alone : IsOpenOk before slot bus last old two
    open_stood_alone = λ v high image behind others is seen alone bridge shut closed walkable over within apart.
        let s = show v high last image behind others is seen alone in
        let less = hushing (inside v slot.device slot.function s.0 others) bus bus behind s.1 (open_hushed v high last slot bus s.0 others seen (s.2.kind ∙ bridge) s.3 over within closed) walkable in
        adds_then HasOneAnswer old one two (stood v high last image behind others is seen alone bridge shut closed over within apart)
        (steps_add (IsLessStep (inside v slot.device slot.function s.0 others) behind) HasOneAnswer (less_is_single v high last slot bus image s.0 behind others bridge s.2 s.3 closed over within apart) first one second two less)

    pub open_stood_third : (r : Result Bool Stop) → IsErr r → IsOneMore (board_moment second two) (board_moment third three) → IsOpenStood (board_moment before old) slot bus last r three
    open_stood_third r err more = λ v high image behind others is seen alone bridge shut closed walkable over within apart.
        ended HasOneAnswer r old three err (ends_one HasOneAnswer second old two third three (open_stood_alone v high image behind others is seen alone bridge shut closed walkable over within apart) more)

    pub open_stood_wide : (bridges : Bool) → IsHushed first bus bridges second → IsNumberPut second slot 0x1a last third → IsOneMore (board_moment second two) (board_moment third three) → IsOpenOk before slot bus last old three
    open_stood_wide bridges hush put put_stood = λ v high image behind others is seen alone bridge shut closed walkable over within apart.
        let s = show v high last image behind others is seen alone in
        let h = hush (inside v slot.device slot.function s.0 others) bus bus behind s.1 (open_hushed v high last slot bus s.0 others seen (s.2.kind ∙ bridge) s.3 over within closed) walkable in
        let p = put v high last s.0 h.0 others h.1 seen alone in
        adds_more HasOneAnswer second old two third three (open_stood_alone v high image behind others is seen alone bridge shut closed walkable over within apart) put_stood
        (single_with v high last slot.device slot.function image p.0 behind h.0 others bridge (alike_then image s.0 p.0 s.2 (alike_subordinate s.0 p.0 p.2)) h.2 apart
        (spread_lead high last slot.bus bus last slot.device slot.function p.0 h.0 others (shows_another s.0 p.0 slot.bus bus bus last s.3 p.2 p.3) (omega (arith, over)) within (omega arith) (inr (closed_spread bus last h.0 h.3)) (closed_spread _ last others closed)) third p.1)
