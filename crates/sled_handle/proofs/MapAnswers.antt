-- What is told of the calls of maps: of a pair, and of one that is too long.
use Rattle.std.proofs.Common.{◌≡◌, ◌+◌, ◌⊎◌, inl, inr, ℕ, Bool, [], Option, Err, length, take, drop, refl, sym, ap, subst, ◌∙◌, arith}
use Rattle.std.specs.Prelude.{unwrap_or}
use Rattle.std.proofs.lemmas.List.{take_at, drop_at}
use Rattle.sled_base.specs.Order.{Bytes}
use Rattle.sled_log.specs.declared.log.Log.{Ghosts}
use Rattle.sled_pagecache.specs.Cache.{Cache}
use Rattle.sled_tree.specs.ByName.{SetsIn, SwapsIn}
use Rattle.sled_tree.specs.Errors.{IsOfPair, IsTooLong}
use Rattle.sled_tree.specs.declared.error.TreeError.{TreeError}
use Rattle.sled_tree.specs.declared.error.TreeError.TheVariants.{KeyTooLong, ValueTooLong}
use Rattle.sled_handle.specs.MapCalls.{SetsOfMap, SwapsOfMap, TellsPair}
use Rattle.sled_handle.specs.Numbers.{number_of_tree_error}
use Rattle.sled_handle.specs.Pairs.{IsPut, IsShort, pair_bytes}

-- A pair that was written to the front is told.
pub pair-told : (pair : Bytes × Bytes) (size needed : ℕ) (buffer out : Bytes) → IsShort pair × (size ≡ length (pair_bytes pair)) → IsPut buffer 0 (pair_bytes pair) out → TellsPair pair 0 (needed, buffer) (size, out)
pair-told pair size needed buffer out of put =
    let bytes = pair_bytes pair in
    let rest = drop (0 + length bytes) buffer in
    let len : length bytes ≡ size = sym of.1 in
    let end : 0 + length bytes ≡ size = omega (arith, len) in
    inr (of.0, (of.1, inr (refl, ap (take size) put ∙ take_at bytes rest size len, ap (drop size) put ∙ drop_at bytes rest size len ∙ ap (λ k. drop k buffer) end)))

-- the key, or the value, is too long
abbrev pub IsBecauseTooLong : Bytes → Bytes → TreeError → Type 0
IsBecauseTooLong key value e = ((e ≡ KeyTooLong) × IsTooLong key) ⊎ ((e ≡ ValueTooLong) × IsTooLong value)

of-pair : (key value : Bytes) (e : TreeError) → IsBecauseTooLong key value e → IsOfPair key value e
of-pair key value e (inl (is, long)) = subst (IsOfPair key value) (sym is) long
of-pair key value e (inr (is, long)) = subst (IsOfPair key value) (sym is) long

module _ {L : Type 0} (g : Ghosts L) (cache : Cache L) (name key : Bytes) where
  -- So a key is refused that was to be set.
  pub sets-refused : (value : Bytes) (e : TreeError) (status : ℕ) (had : Bool) → IsBecauseTooLong key value e → status ≡ number_of_tree_error e → SetsOfMap g cache cache name key value status had had
  sets-refused value e status had long is = inr (Err e, refused long, of-pair key value e long, (is, refl))
    where
      refused : IsBecauseTooLong key value e → SetsIn g name key value (Err e) cache cache
      refused (inl (same, too)) = inl (inl (too, (ap Err same, refl)))
      refused (inr (same, too)) = inl (inr (too, (ap Err same, refl)))

  -- And so is one whose value was to be swapped.
  pub swaps-refused : (had value : Option Bytes) (e : TreeError) (status : ℕ) → IsBecauseTooLong key (unwrap_or value []) e → status ≡ number_of_tree_error e → SwapsOfMap g cache cache name key had value status
  swaps-refused had value e status long is = inr (Err e, refused long, of-pair key (unwrap_or value []) e long, is)
    where
      refused : IsBecauseTooLong key (unwrap_or value []) e → SwapsIn g name key had value (Err e) cache cache
      refused (inl (same, too)) = inl (inl (too, (ap Err same, refl)))
      refused (inr (same, too)) = inl (inr (too, (ap Err same, refl)))
