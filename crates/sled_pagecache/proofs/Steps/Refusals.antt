-- What a `?` hands on, and that a refusal owns no name.
use Rattle.std.proofs.Common.{◌≡◌, Result, Err, ◌∙◌, ap, arith}
use Rattle.std.proofs.lemmas.Result.{err_from_is_err_and}
use Rattle.std.specs.Result.{IsErrAnd}
use Rattle.sled_base.specs.Errors.{error_of}
use Rattle.sled_base.specs.Order.{Bytes}
use Rattle.sled_base.specs.declared.types.Refusal.{Refusal}
use Rattle.sled_pagecache.specs.Answers.{HasNoName, NamesOnly}

pub refused-is : {T E : Type 0} (result : Result T E) (e : E) → IsErrAnd result (λ y. y ≡ e) → result ≡ Err e
refused-is result e is = let p = err_from_is_err_and result is in p.1 ∙ ap (λ y. Err y) p.2

pub no_name : (refusal : Refusal) → HasNoName (error_of refusal)
no_name refusal = grind arith

pub names_none : (name : Bytes) (refusal : Refusal) → NamesOnly name (error_of refusal)
names_none name refusal = grind arith
