-- What holds of the head of each record holds of all heads that are kept.
use Rattle.std.proofs.Common.{◌≡◌, ℕ, ◌+◌, Bool, true, false, List, [], ◌∷◌, ◌++◌, length, refl, ap, subst}
use Rattle.std.specs.Prelude.{Option, Some, None, ◌==◌, ◌||◌, if◌then◌else◌}
use Rattle.std.specs.List.{AllByRecursion}
use Rattle.sled_base.specs.Kinds.{kind_of, log_kind_of}
use Rattle.sled_base.specs.declared.kinds.LogKind.{LogKind}
use Rattle.sled_base.specs.declared.kinds.LogKind.TheVariants as effects
use Rattle.sled_base.specs.declared.kinds.MessageKind.{MessageKind}
use Rattle.sled_base.specs.declared.kinds.MessageKind.TheVariants as kinds
use Rattle.sled_log.proofs.ChainLaws.{all-append, AllIn, chains-all}
use Rattle.sled_log.specs.Chains.{chains_after}
use Rattle.sled_log.specs.Events.{Change}
use Rattle.sled_disk.specs.declared.recovery.head.Head.{Head}
use Rattle.sled_disk.specs.Format.{◌>>=◌, Record, Frame, Begun, outside, within, size, body, is_begin, closes_from, taken, waits, plain, turn_by, turn, turns, marks, takes_change, may_change}
use Rattle.sled_disk.specs.Reading.{Read, steps, frames_steps, head_at, effect_of_head}
use Rattle.sled_disk.specs.LogContents.{inside_of, chains_now}

abbrev chains : Type 0
chains = List (List Head)

abbrev takes : chains → ℕ → Head → Option chains
takes = takes_change effect_of_head

some_chains : chains → Option chains
some_chains s = Some s

same_chains : (x y : chains) → Some x ≡ Some y → x ≡ y
same_chains x y e = cc

abbrev some_read : Read → Option Read
some_read q = Some q

same_read : (x y : Read) → some_read x ≡ some_read y → x ≡ y
same_read x y e = cc

same_found : (x y : ℕ × Read) → Some x ≡ Some y → x ≡ y
same_found x y e = cc

module _ (P : Head → Type 0) where
  -- of those of records
  abbrev pub Heads : ℕ → List Record → Type 0
  Heads place [] = Unit {0}
  Heads place (r ∷ rs) = P (head_at place r) × Heads (place + size r) rs

  abbrev pub FrameHeads : ℕ → List Frame → Type 0
  FrameHeads gate [] = Unit {0}
  FrameHeads gate (frame ∷ frames) = Heads (gate + 9) frame.records × FrameHeads (gate + (9 + length (body frame.records))) frames

  abbrev Waiting : List (ℕ × Head) → Type 0
  Waiting inside = AllByRecursion (λ change. P change.1) inside

  -- of those that were kept so far
  abbrev pub Kept : Read → Type 0
  Kept p = AllIn effect_of_head P p.settled × Waiting (inside_of p.begun)

  one-taken : (s t : chains) (id : ℕ) (e : Head) → takes s id e ≡ Some t → P e → AllIn effect_of_head P s → AllIn effect_of_head P t
  one-taken s t id e is one all = by (may_change effect_of_head (effect_of_head e) s id) is
    where
      after : chains
      after = chains_after effect_of_head s (Change id e ∷ [])

      by : (b : Bool) → (if b then Some after else None) ≡ Some t → AllIn effect_of_head P t
      by true is = subst (λ (l : chains). AllIn effect_of_head P l) (same_chains after t is) (chains-all effect_of_head P s (Change id e ∷ []) all (one, tt))
      by false is = absurd cc

  pub all-taken : (s t : chains) (inside : List (ℕ × Head)) → taken head_at takes s inside ≡ Some t → Waiting inside → AllIn effect_of_head P s → AllIn effect_of_head P t
  all-taken s t [] is waiting all = subst (λ (l : chains). AllIn effect_of_head P l) (same_chains s t is) all
  all-taken s t (change ∷ inside) is waiting all = by (takes s change.0 change.1) refl is (λ m. all-taken m t inside)
    where
      by : (x : Option chains) → takes s change.0 change.1 ≡ x → (x >>= λ m. taken head_at takes m inside) ≡ Some t → ((m : chains) → taken head_at takes m inside ≡ Some t → Waiting inside → AllIn effect_of_head P m → AllIn effect_of_head P t) → AllIn effect_of_head P t
      by None was is next = absurd cc
      by (Some m) was is next = next m is waiting.1 (one-taken s m change.0 change.1 was waiting.0 all)

  module _ (place : ℕ) (r : Record) (here : P (head_at place r)) where
    counted : (s : chains) (q : Read) → AllIn effect_of_head P s → (takes s r.id (head_at place r) >>= λ t. Some (outside t)) ≡ Some q → Kept q
    counted s q all is = by (takes s r.id (head_at place r)) refl is
      where
        by : (x : Option chains) → takes s r.id (head_at place r) ≡ x → (x >>= λ t. Some (outside t)) ≡ Some q → Kept q
        by None was is = absurd cc
        by (Some t) was is = subst Kept (same_read (outside t) q is) (one-taken s t r.id (head_at place r) was here all, tt)

    skipped : (s : chains) (q : Read) → AllIn effect_of_head P s → some_read (outside s) ≡ some_read q → Kept q
    skipped s q all is = subst Kept (same_read (outside s) q is) (all, tt)

    plain-kept : (kind : MessageKind) (s : chains) (mark : Bool) (q : Read) → AllIn effect_of_head P s → plain head_at takes kind s place r mark ≡ Some q → Kept q
    plain-kept kinds.Canceled s mark q all is = skipped s q all is
    plain-kept kinds.BatchManifest s true q all is = skipped s q all is
    plain-kept kinds.BatchManifest s false q all is = absurd cc
    plain-kept kinds.Corrupted s mark q all is = absurd cc
    plain-kept kinds.Cap s mark q all is = absurd cc
    plain-kept kinds.Free s mark q all is = counted s q all is
    plain-kept kinds.Counter s mark q all is = counted s q all is
    plain-kept kinds.InlineMeta s mark q all is = counted s q all is
    plain-kept kinds.BlobMeta s mark q all is = counted s q all is
    plain-kept kinds.InlineNode s mark q all is = counted s q all is
    plain-kept kinds.BlobNode s mark q all is = counted s q all is
    plain-kept kinds.InlineLink s mark q all is = counted s q all is
    plain-kept kinds.BlobLink s mark q all is = counted s q all is

    outside-kept : (s : chains) (mark : Bool) (q : Read) (a b : Bool) → AllIn effect_of_head P s → (if a then (if b then Some (within s place []) else None) else plain head_at takes (kind_of r.kind) s place r mark) ≡ Some q → Kept q
    outside-kept s mark q true true all is = subst Kept (same_read (within s place []) q is) (all, tt)
    outside-kept s mark q true false all is = absurd cc
    outside-kept s mark q false b all is = plain-kept (kind_of r.kind) s mark q all is

    waits-kept : (s : chains) (b : Begun Head) (q : Read) (kind : LogKind) → AllIn effect_of_head P s → Waiting b.inside → waits head_at takes kind s b r.id (head_at place r) ≡ Some q → Kept q
    waits-kept s b q kind all waiting is = by kind is
      where
        more : some_read (within s b.place (b.inside ++ (r.id, head_at place r) ∷ [])) ≡ some_read q → Kept q
        more is = subst Kept (same_read (within s b.place (b.inside ++ (r.id, head_at place r) ∷ [])) q is) (all, all-append (λ change. P change.1) b.inside ((r.id, head_at place r) ∷ []) waiting (here, tt))

        by : (kind : LogKind) → waits head_at takes kind s b r.id (head_at place r) ≡ Some q → Kept q
        by effects.Replace is = more is
        by effects.Free is = more is
        by effects.Link is = more is
        by effects.Skip is = absurd cc
        by effects.Corrupted is = absurd cc

    closed-kept : (s : chains) (b : Begun Head) (q : Read) (z : Bool) → AllIn effect_of_head P s → Waiting b.inside → (if z then Some (outside s) else (taken head_at takes s b.inside >>= λ t. Some (outside t))) ≡ Some q → Kept q
    closed-kept s b q true all waiting is = skipped s q all is
    closed-kept s b q false all waiting is = by (taken head_at takes s b.inside) refl is
      where
        by : (x : Option chains) → taken head_at takes s b.inside ≡ x → (x >>= λ t. Some (outside t)) ≡ Some q → Kept q
        by None was is = absurd cc
        by (Some t) was is = subst Kept (same_read (outside t) q is) (all-taken s t b.inside was waiting all, tt)

    inside-kept : (s : chains) (b : Begun Head) (q : Read) (c z f : Bool) → AllIn effect_of_head P s → Waiting b.inside
        → (if c then (if f then (if z then Some (outside s) else (taken head_at takes s b.inside >>= λ t. Some (outside t))) else None) else waits head_at takes (log_kind_of (kind_of r.kind)) s b r.id (head_at place r)) ≡ Some q → Kept q
    inside-kept s b q true z true all waiting is = closed-kept s b q z all waiting is
    inside-kept s b q true z false all waiting is = absurd cc
    inside-kept s b q false z f all waiting is = waits-kept s b q (log_kind_of (kind_of r.kind)) all waiting is

    turn-kept : (begun : Option (Begun Head)) (s : chains) (mark : Bool) (q : Read) → AllIn effect_of_head P s → Waiting (inside_of begun) → turn_by head_at takes begun s place r mark ≡ Some q → Kept q
    turn-kept None s mark q all waiting is = outside-kept s mark q (r.kind == 12) (is_begin r) all is
    turn-kept (Some b) s mark q all waiting is = inside-kept s b q (r.kind == 13 || (r.kind == 1 || r.kind == 14)) (r.kind == 14) (closes_from b.place r) all waiting is

  pub steps-kept : (place : ℕ) (p q : Read) (rs : List Record) → steps place p rs ≡ Some q → Heads place rs → Kept p → Kept q
  unfolding turns
  steps-kept place p q [] is heads kept = subst Kept (same_read p q is) kept
  steps-kept place p q (r ∷ rs) is heads kept = by (turn head_at takes p place r (marks place r rs)) refl is (λ m. steps-kept (place + size r) m q rs)
    where
      by : (x : Option Read) → turn head_at takes p place r (marks place r rs) ≡ x → (x >>= λ m. steps (place + size r) m rs) ≡ Some q → ((m : Read) → steps (place + size r) m rs ≡ Some q → Heads (place + size r) rs → Kept m → Kept q) → Kept q
      by None was is next = absurd cc
      by (Some m) was is next = next m is heads.1 (turn-kept place r heads.0 p.begun p.settled (marks place r rs) m kept.0 kept.1 was)

  pub frames-kept : (gate end : ℕ) (p q : Read) (frames : List Frame) → frames_steps gate p frames ≡ Some (end, q) → FrameHeads gate frames → Kept p → Kept q
  unfolding frames_steps
  frames-kept gate end p q [] is heads kept = by _ is
    where
      stop : Bool → Option (ℕ × Read)
      stop b = let here : ℕ × Read = (gate, p) in if b then Some here else None

      by : (b : Bool) → stop b ≡ Some (end, q) → Kept q
      by true is = subst Kept (ap (λ (x : ℕ × Read). x.1) (same_found (gate, p) (end, q) is)) kept
      by false is = absurd cc
  frames-kept gate end p q (frame ∷ frames) is heads kept = by (steps (gate + 9) p frame.records) refl is (λ m. frames-kept (gate + (9 + length (body frame.records))) end m q frames)
    where
      next : ℕ
      next = gate + (9 + length (body frame.records))

      by : (x : Option Read) → steps (gate + 9) p frame.records ≡ x → (x >>= λ m. frames_steps next m frames) ≡ Some (end, q) → ((m : Read) → frames_steps next m frames ≡ Some (end, q) → FrameHeads next frames → Kept m → Kept q) → Kept q
      by None was is go = absurd cc
      by (Some m) was is go = go m is heads.1 (steps-kept (gate + 9) p m frame.records was heads.0 kept)

  pub now-kept : (p : Read) (heads : chains) → chains_now p ≡ Some heads → Kept p → AllIn effect_of_head P heads
  now-kept p heads is kept = all-taken p.settled heads (inside_of p.begun) is kept.1 kept.0

-- what follows of it holds of them too
module _ (P Q : Head → Type 0) (so : (head : Head) → P head → Q head) where
  pub heads-so : (place : ℕ) (rs : List Record) → Heads P place rs → Heads Q place rs
  heads-so place [] all = tt
  heads-so place (r ∷ rs) all = (so (head_at place r) all.0, heads-so (place + size r) rs all.1)

  pub frames-so : (gate : ℕ) (frames : List Frame) → FrameHeads P gate frames → FrameHeads Q gate frames
  frames-so gate [] all = tt
  frames-so gate (frame ∷ frames) all = (heads-so (gate + 9) frame.records all.0, frames-so (gate + (9 + length (body frame.records))) frames all.1)
