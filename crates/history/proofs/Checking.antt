-- THE CONDUCT of the commands that prove something to a challenger: F9, F3, F4. Assumes nothing.
use Prim.Native.Nat.{ℕ}
use mathlib.Core.Path.{◌≡◌, refl, sym, subst}
use mathlib.Core.Bool.{true}
use mathlib.Core.List.{List}
use Rattle.card.specs.declared.Face.{Face}
use Rattle.card.specs.Values.{checked_once, validated_once}
use Rattle.kept.proofs.Next.{ok_counters}
use Rattle.manual.specs.declared.Command.TheVariants.{CheckWallet, VerifyCard, ValidateCard}
use Rattle.manual.specs.Request.{code}
use Rattle.manual.specs.Row.{Matched}
use Rattle.manual.specs.Checking.{key_asked, key_alone, check_wallet, verify_card, validate_card}
use Rattle.manual.specs.Settle.{sent_in}
use Rattle.history.specs.Demands.{all_kinds, may_ask}
use Rattle.history.proofs.Choice.{by_cases, clash}
use Rattle.history.proofs.Taps.{Passed}
use Rattle.history.proofs.Conduct.{Conduct, quiet, quietly, loaded, not_purged, same}

module _ (m : Matched) (f : Face) (q d a : List ℕ) where
  pub of_check_wallet : Passed check_wallet m f (sent_in q) → Conduct CheckWallet f q d a
  of_check_wallet p =
      record {
        reports =
            quietly _ _
            (by_cases (λ z. quiet z ≡ true) (key_asked (sent_in q))
            (λ _. by_cases (λ z. quiet z ≡ true) (key_alone (sent_in q)) (λ _. refl) (λ _. refl))
            (λ _. refl));
        asks =
            subst (λ s. all_kinds (may_ask (code CheckWallet) s) (check_wallet.questions f (sent_in q) d) ≡ true)
            (sym (loaded check_wallet.needs f.front.wallet.status p.allows refl refl))
            (by_cases (λ z. all_kinds (may_ask (code CheckWallet) 2) z ≡ true) (key_asked (sent_in q)) (λ _. refl) (λ _. refl));
        keeps = λ sh x h r i t s. rw (t.create, t.pin, t.sign, t.purge, t.activate) i;
        stays = λ o g. ok_counters f o (checked_once f.front.counters);
        alive = λ u e. not_purged check_wallet.needs f.front.wallet.status p.allows refl e;
        climbs = λ g. same refl refl;
      }

  pub of_verify_card : Passed verify_card m f (sent_in q) → Conduct VerifyCard f q d a
  of_verify_card p =
      record {
        reports = quietly _ _ refl;
        asks = refl;
        keeps = λ sh x h r i t s. rw (t.create, t.pin, t.sign, t.purge, t.activate) i;
        stays = λ o g. o;
        alive = λ u e. clash u refl;
        climbs = λ g. same refl refl;
      }

  pub of_validate_card : Passed validate_card m f (sent_in q) → Conduct ValidateCard f q d a
  of_validate_card p =
      record {
        reports = quietly _ _ refl;
        asks = refl;
        keeps = λ sh x h r i t s. rw (t.create, t.pin, t.sign, t.purge, t.activate) i;
        stays = λ o g. ok_counters f o (validated_once f.front.counters);
        alive = λ u e. clash u refl;
        climbs = λ g. same refl refl;
      }
