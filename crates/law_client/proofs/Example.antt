-- What happens in the example may happen.
use Rattle.std.proofs.Common.{◌≤◌, [], ◌∷◌, refl, inl, inr, arith}
use Rattle.ax_types.specs.declared.ops.LongQuery.TheVariants as long_query
use Rattle.ax_types.specs.declared.ops.Query.TheVariants as query
use Rattle.law_client.specs.Example as examples

pub example_may_happen : examples.ExampleMayHappen
example_may_happen =
    let within : 3 ≤ 4 = omega arith in
    let behind : 1 ≤ 1 = omega arith in (
      tt,
      (
        tt,
        (
          tt,
          (
            ((refl, refl), tt),
            (
              ((refl, refl), tt),
              (
                tt,
                (
                  tt,
                  (
                    tt,
                    (
                      (record { name = 99 ∷ []; query = query.Long long_query.Get; called = inr (inl refl); within = within; live = refl; behind = behind; last_event = refl; answer = refl; reached = tt }, tt),
                      (((refl, refl, refl), tt), (((refl, refl, refl), tt), (tt, (tt, ((refl, λ e. inl refl), (tt, (tt, tt))))))),
                    ),
                  ),
                ),
              ),
            ),
          ),
        ),
      ),
    )

pub example_shows : examples.ExampleShows
example_shows = refl
