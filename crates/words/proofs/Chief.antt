-- The chief laws of words, from those of the field and of the group.
use Rattle.algebra.specs.Fields.{Symbols, FieldLaws}
use Rattle.algebra.specs.Groups.{Dots, GroupLaws}
use Rattle.words.specs.Laws.{AlgebraLaws}
use Rattle.words.proofs.Linear.{plus_times, scaled_times, times_one, one_times, syndrome_plus, syndrome_scaled, keeps_from_syndrome, syndrome_from_keeps}
use Rattle.words.proofs.Turning.{turned_times, turned_turned, turned_back, turned_lawful}
use Rattle.words.proofs.Weights.{weight_turned, weight_scaled, scaled_back}

pub algebra_laws : {k : Symbols} {g : Dots} → FieldLaws k → GroupLaws g → AlgebraLaws k g
algebra_laws {k} {g} field group =
    let laws = field.sums in
    record {
      plus_times = plus_times laws g;
      scaled_times = scaled_times laws g;
      times_one = times_one laws group;
      one_times = one_times laws group;
      syndrome_plus = λ e u v _. syndrome_plus laws g e u v;
      syndrome_scaled = λ e a w _. syndrome_scaled laws g e a w;
      syndrome_nought = λ e w le lw. (keeps_from_syndrome laws group e w le lw, syndrome_from_keeps laws group e w le lw);
      turned_times = λ j u v lj _ _. turned_times laws group j u v lj;
      turned_turned = λ i j w li lj _. turned_turned group i j w li lj;
      turned_back = λ j w lj lw. turned_back group j w lj lw.0;
      turned_lawful = λ j w _. turned_lawful laws g j w;
      turned_weight = λ j w lj lw. weight_turned group j w lj lw.0;
      scaled_weight = weight_scaled field g.order;
      scaled_back = scaled_back laws g.order;
    }
