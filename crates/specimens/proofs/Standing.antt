-- The certificates of the specimens, and that all hold.
use Rattle.std.proofs.Common.{[], ◌∷◌, refl}
use Rattle.words.specs.Words.{less, nought, one, syndrome, tabulate, times, total, turned, unit, weight}
use Rattle.codes.specs.Eliminations.{combination, pivots, residual}
use Rattle.fields.specs.FieldKinds.{binary_symbols, prime_symbols, times_bits, times_power}
use Rattle.fields.specs.SmallFields.{binary_laws, prime_laws}
use Rattle.specimens.specs.Specimens.{AllHold, digits, specimens}
use Rattle.specimens.proofs.Certificates.{Basis, Certificates, all_hold, not_central, not_idempotent, too_close}

-- of 0001011 and of the word one on the ring of 7, of 11111 on the ring of 5, of 123 on the ring of 3, and of 222000 on the double ring of 3
abbrev seven : Basis (prime_symbols 2)
seven = record {
  laws = (prime_laws 2 refl).sums;
  words = digits "1000101" ∷ digits "0100111" ∷ digits "0010110" ∷ digits "0001011" ∷ [];
}

abbrev whole : Basis (prime_symbols 2)
whole = record {
  laws = (prime_laws 2 refl).sums;
  words = digits "1000000" ∷ digits "0100000" ∷ digits "0010000" ∷ digits "0001000" ∷ digits "0000100" ∷ digits "0000010" ∷ digits "0000001" ∷ [];
}

abbrev five : Basis (prime_symbols 2)
five = record { laws = (prime_laws 2 refl).sums; words = digits "11111" ∷ [] }

abbrev three : Basis (binary_symbols 4)
three = record { laws = (binary_laws 4 refl).sums; words = digits "123" ∷ [] }

abbrev double : Basis (prime_symbols 5)
double = record { laws = (prime_laws 5 refl).sums; words = digits "111000" ∷ [] ∷ [] ∷ digits "000111" ∷ [] }

abbrev certificates : Certificates specimens
certificates = (
  refl,
  (
    tt,
    (
      tt,
      (
        tt,
        (
          seven,
          (
            too_close (digits "0001011") refl,
            (
              seven,
              (
                seven,
                (
                  five,
                  (
                    five,
                    (
                      five,
                      (
                        (five, refl),
                        (
                          too_close (digits "11111") refl,
                          (
                            three,
                            (
                              (three, refl),
                              (
                                double,
                                (
                                  double,
                                  (
                                    not_central 1 refl,
                                    (
                                      tt,
                                      (
                                        tt,
                                        (
                                          not_idempotent 1 refl,
                                          (
                                            whole,
                                            (
                                              too_close (digits "1000000") refl,
                                              tt,
                                            ),
                                          ),
                                        ),
                                      ),
                                    ),
                                  ),
                                ),
                              ),
                            ),
                          ),
                        ),
                      ),
                    ),
                  ),
                ),
              ),
            ),
          ),
        ),
      ),
    ),
  ),
)

pub specimens_stand : AllHold specimens
unfolding times tabulate total nought one less turned weight syndrome unit combination residual pivots times_power times_bits
specimens_stand = all_hold specimens certificates refl
