-- Document 01's cases 1 to 12 hold, and those of Wishes 4, 2, 11 and 12: antt computes each row. Assumes nothing.
use mathlib.Core.Path.{refl}
use Rattle.sentences.proofs.ComputedLaws.{computed}
use Rattle.signed.specs.Cases.{keys_from, AllRight}

pub all_right : AllRight
unfolding computed keys_from
all_right = (
  refl,
  (
    refl,
    (
      refl,
      (
        refl,
        (
          refl,
          (
            refl,
            (
              refl,
              (
                refl,
                (
                  refl,
                  (
                    refl,
                    (
                      refl,
                      (
                        (refl, refl, (refl, refl, (refl, refl, refl))),
                        (refl, (refl, (refl, (refl, (refl, (refl, (refl, (refl, (refl, (refl, (refl, (refl, (refl, (refl, (refl, (refl, (refl, (refl, (refl, tt))))))))))))))))))),
                      ),
                    ),
                  ),
                ),
              ),
            ),
          ),
        ),
      ),
    ),
  ),
)
